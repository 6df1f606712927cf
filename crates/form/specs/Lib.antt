pub mod Changes
pub mod Scan
