pub mod Black
pub mod Extremes
pub mod Sizes
pub mod States
