pub mod Deleted
pub mod Marks
