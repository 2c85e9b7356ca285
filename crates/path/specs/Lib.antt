pub mod Anchor
pub mod Flat
pub mod Limit
pub mod Shape
