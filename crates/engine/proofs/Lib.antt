pub mod Rows
pub mod Lowered
pub mod Finished
