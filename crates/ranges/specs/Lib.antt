pub mod Judged
pub mod Numbers
