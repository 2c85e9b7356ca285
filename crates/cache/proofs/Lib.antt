pub mod Subpaths
pub mod Fitting
pub mod Held
pub mod Outcomes
pub mod Accepted
pub mod Limited
pub mod Theorems
pub mod Reached
