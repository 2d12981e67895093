pub mod Settings
pub mod Records
pub mod Numbers
pub mod Layers
pub mod Head
pub mod Files
pub mod Laws
pub mod inner
