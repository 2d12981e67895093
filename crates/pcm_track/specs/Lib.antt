pub mod Wav
pub mod Faults
pub mod Track
pub mod Writing
pub mod Ends
pub mod Sounding
pub mod Adding
pub mod inner
