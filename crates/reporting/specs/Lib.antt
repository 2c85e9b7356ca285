pub mod Codes
pub mod Report
pub mod Gathered
