pub mod BlockLemmas
pub mod FaultLemmas
pub mod Pieces
pub mod SliceLemmas
