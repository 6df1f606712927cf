pub mod Laws
pub mod Mean
pub mod Cases
