pub mod Groups
pub mod Outputs
pub mod Encoding
pub mod Headline
pub mod Laws
pub mod Completing
pub mod inner
