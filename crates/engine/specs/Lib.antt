pub mod Usable
pub mod Freed
