pub mod Touches
pub mod Decided
pub mod AllEdges
pub mod Bound
