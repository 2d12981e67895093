pub mod Ends
pub mod Listing
pub mod Checking
pub mod Reproofing
pub mod Agreeing
pub mod inner
