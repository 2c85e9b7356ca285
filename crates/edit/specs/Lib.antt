pub mod Gap
pub mod Split
pub mod Reversed
