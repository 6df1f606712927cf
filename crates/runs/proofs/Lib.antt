pub mod Stepping
pub mod Readying
pub mod Turning
pub mod Taking
pub mod Opened
