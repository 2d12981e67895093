pub mod Bytes
pub mod Faults
pub mod Header
pub mod Picture
pub mod Slice
pub mod Own
pub mod Laws
pub mod inner
