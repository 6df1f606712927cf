pub mod Stepping
pub mod Trying
pub mod Lining
