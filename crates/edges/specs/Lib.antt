pub mod Rule
pub mod Touch
pub mod Tests
pub mod EdgeList
