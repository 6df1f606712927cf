pub mod Counting
pub mod Entering
