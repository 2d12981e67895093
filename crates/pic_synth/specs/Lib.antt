pub mod Pictures
pub mod Numbered
