pub mod BitsLemmas
pub mod WritingLemmas
pub mod ReadingLemmas
pub mod WindowLemmas
pub mod PlacesLemmas
pub mod SpelledLemmas
pub mod Written
