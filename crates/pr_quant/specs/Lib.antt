pub mod Quantised
pub mod Steep
pub mod Matrices
pub mod Turns
pub mod Errors
