pub mod Glues
pub mod Paths
mod Drawings
pub mod Texts
