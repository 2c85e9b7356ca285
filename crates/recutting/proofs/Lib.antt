pub mod Limits
pub mod Copies
pub mod Unrolling
pub mod Passing
