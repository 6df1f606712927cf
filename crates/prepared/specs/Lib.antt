pub mod Tables
pub mod Steps
pub mod Calls
pub mod Laws
