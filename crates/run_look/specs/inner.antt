pub mod Through
pub mod Headers
