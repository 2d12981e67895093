pub mod Faults
pub mod Samples
pub mod Tables
pub mod Sums
pub mod Writing
pub mod Laws
pub mod inner
