pub mod Wanted
pub mod Search
pub mod State
