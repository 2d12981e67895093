pub mod Raw
pub mod Writing
pub mod Any
