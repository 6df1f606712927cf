pub mod Refusing
pub mod Stopping
pub mod Clear
