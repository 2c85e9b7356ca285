pub mod Puts
pub mod Digits
pub mod Counted
pub mod Values
pub mod Cut
pub mod Nearest
pub mod Room
pub mod Numerals
pub mod Shortest
mod Vectors
