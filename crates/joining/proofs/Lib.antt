pub mod Eithers
pub mod Laid
pub mod Within
pub mod Outcomes
