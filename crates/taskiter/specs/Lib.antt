pub mod Given
pub mod Played
pub mod Kept
pub mod Demands
pub mod Run
pub mod Shown
pub mod Told
