pub mod Ascii
pub mod Text
pub mod Numbers
pub mod Digits
pub mod Words
pub mod Records
