pub mod Limits
pub mod Sizes
pub mod Layout
pub mod Code
pub mod Form
pub mod Counts
pub mod Refusals
