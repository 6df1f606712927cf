pub mod Parts
pub mod Targets
pub mod Rows
