pub mod Laid
pub mod Staying
pub mod Outcomes
