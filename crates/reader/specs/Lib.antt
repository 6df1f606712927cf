pub mod Machine
pub mod Steps
pub mod Answer
