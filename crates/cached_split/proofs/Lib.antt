pub mod Makes
pub mod Halves
pub mod Splitting
pub mod Leaving
