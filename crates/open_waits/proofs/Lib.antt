pub mod Chains
pub mod Marks
pub mod Touching
pub mod TaskTouch
pub mod Counting
pub mod Opening
