pub mod Over
pub mod Steps
pub mod Turns
