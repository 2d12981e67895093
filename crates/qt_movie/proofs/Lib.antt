pub mod InOrder
mod MoovWalk
mod Contained
mod Lengths
mod Frames
pub mod FramesTrak
pub mod Stands
pub mod Nodes
pub mod TopLevel
pub mod WrittenFields
pub mod WrittenTables
pub mod WrittenParts
pub mod WrittenTraks
pub mod WrittenMovie
pub mod LoneSamples
pub mod Inside
