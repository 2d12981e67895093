pub mod Bits
pub mod Writing
pub mod Reading
pub mod Window
pub mod Places
pub mod Spelled
pub mod inner
