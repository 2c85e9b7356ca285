pub mod Samples
pub mod Turns
pub mod Outcomes
