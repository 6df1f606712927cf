pub mod Parts
pub mod Answer
pub mod Steps
