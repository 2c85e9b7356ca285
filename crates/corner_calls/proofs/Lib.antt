pub mod Chosen
pub mod Found
pub mod Listed
pub mod Outcomes
mod Samples
