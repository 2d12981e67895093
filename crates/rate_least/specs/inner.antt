pub mod Bent
pub mod Covering
pub mod First
pub mod Live
pub mod Merge
pub mod Printed
