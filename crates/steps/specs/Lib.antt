pub mod State
pub mod Answers
pub mod Calls
pub mod Running
pub mod Turns
pub mod Ready
