pub mod Cases
pub mod Read
pub mod Drawn
pub mod Starts
pub mod Checked
pub mod Table
pub mod Printed
