pub mod Movie
pub mod Ranges
pub mod Bodies
pub mod Trak
pub mod MovieBytes
pub mod Laws
