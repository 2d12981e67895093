pub mod Placing
pub mod Output
