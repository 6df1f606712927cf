pub mod Plans
pub mod Finding
pub mod Words
pub mod Writing
pub mod Opening
pub mod Resulting
