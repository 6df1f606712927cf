pub mod Meeting
pub mod TaskTouch
pub mod Touching
pub mod Runs
pub mod RowMarks
pub mod Marked
pub mod Listing
