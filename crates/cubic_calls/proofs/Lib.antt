pub mod Outcomes
pub mod FourPoints
pub mod Sampled
