pub mod Chain
pub mod Rescuing
pub mod Laws
pub mod inner
