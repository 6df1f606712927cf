pub mod Plan
pub mod Valid
pub mod Reading
pub mod Written
pub mod Refusals
pub mod Laws
