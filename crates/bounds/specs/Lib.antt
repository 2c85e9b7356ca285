pub mod Points
pub mod Calls
