pub mod Masks
pub mod Tasks
pub mod Coding
