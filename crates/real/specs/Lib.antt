pub mod Operators
pub mod StandIns
pub mod Limit
pub mod Finite
pub mod Sums
