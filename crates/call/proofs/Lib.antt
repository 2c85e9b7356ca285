pub mod Openings
pub mod Handings
