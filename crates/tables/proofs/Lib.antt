pub mod Padded
pub mod Listed
pub mod Targeted
pub mod Filled
