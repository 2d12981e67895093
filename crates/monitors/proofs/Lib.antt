pub mod Counts
pub mod Fronts
pub mod Joined
pub mod Orders
pub mod Runs
pub mod Sums
