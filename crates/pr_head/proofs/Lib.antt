pub mod Bounds
pub mod Places
pub mod Passing
pub mod Sizes
pub mod Chain
pub mod Whole
pub mod Again
