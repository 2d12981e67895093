pub mod WordsLemmas
pub mod CodesLemmas
pub mod GoesOn
