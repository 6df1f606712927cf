pub mod Below
pub mod Lists
pub mod Update
pub mod Put
