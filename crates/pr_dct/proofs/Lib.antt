pub mod SumLemmas
pub mod PassLemmas
pub mod HalfLemmas
pub mod ShownLemmas
