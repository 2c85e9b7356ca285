pub mod Chunks
pub mod Places
pub mod Rooms
mod Samples
