pub mod Instances
pub mod System
pub mod Sequential
pub mod Edges
pub mod Machine
pub mod Meaning
pub mod AnyOrder
pub mod Gap
