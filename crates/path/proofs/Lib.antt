pub mod Shapes
pub mod Places
pub mod Puts
pub mod Limits
pub mod Distances
pub mod Anchors
