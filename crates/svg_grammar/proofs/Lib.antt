pub mod Numbers
pub mod Parses
mod Samples
