pub mod Bits
pub mod Bound
pub mod Live
pub mod Merge
pub mod Multiplied
