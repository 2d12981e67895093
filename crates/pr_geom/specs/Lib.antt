pub mod Blocks
pub mod Faults
pub mod Layout
pub mod Slices
pub mod inner
