pub mod StepLemmas
pub mod RowLemmas
pub mod CodingLemmas
pub mod ReadLemmas
