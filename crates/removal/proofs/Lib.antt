pub mod Samples
pub mod Retained
pub mod References
pub mod Moved
pub mod Outcomes
