pub mod Component
pub mod Reading
pub mod Calls
pub mod Lengths
pub mod Known
pub mod Triples
pub mod inner
