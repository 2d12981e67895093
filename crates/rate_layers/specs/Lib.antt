pub mod Layers
pub mod First
pub mod Multiplier
pub mod Laws
pub mod Best
pub mod inner
