pub mod Facts
pub mod Zeros
pub mod Within
pub mod Surplus
pub mod Tests
pub mod Refusals
