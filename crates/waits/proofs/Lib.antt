pub mod Unmet
pub mod Fresh
pub mod Stored
pub mod InStep
pub mod Bodies
pub mod Theorems
