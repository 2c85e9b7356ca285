pub mod Nearest
pub mod Best
pub mod Located
pub mod Steps
pub mod Tried
pub mod Calls
