pub mod Held
pub mod Writes
pub mod Finds
pub mod Same
pub mod Loops
pub mod Ends
