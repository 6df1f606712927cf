pub mod Rest
pub mod Naming
pub mod Scanning
pub mod Agrees
pub mod Trace
pub mod Bound
pub mod Answers
