pub mod Near
pub mod Stretch
