pub mod Steps
pub mod Sizes
pub mod Room
pub mod Theorems
pub mod Shown
pub mod Joined
pub mod Reported
