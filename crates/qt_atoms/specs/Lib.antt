pub mod Atoms
pub mod Written
pub mod Laws
