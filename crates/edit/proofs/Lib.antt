pub mod Gaps
pub mod Made
pub mod Outcomes
pub mod Segments
pub mod Splits
pub mod Turning
