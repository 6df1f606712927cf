pub mod Small
pub mod Lookup
pub mod Accesses
pub mod Theorems
