pub mod Synthesis
pub mod inner
