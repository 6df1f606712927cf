pub mod Waits
pub mod Stored
pub mod Laws
pub mod InStep
