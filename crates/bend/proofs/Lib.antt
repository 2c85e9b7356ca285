pub mod Afterwards
pub mod Outcomes
pub mod Smooths
pub mod Bends
