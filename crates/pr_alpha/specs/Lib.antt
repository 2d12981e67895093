pub mod Alpha
pub mod Reading
pub mod Calls
pub mod inner
