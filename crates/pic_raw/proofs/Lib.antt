pub mod Pieces
pub mod Forms
pub mod Again
pub mod Readers
