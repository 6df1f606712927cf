pub mod Behind
pub mod Finishing
pub mod Readying
pub mod Listed
