pub mod Lines
pub mod Checking
pub mod Written
pub mod Laws
