pub mod Numbers
pub mod Inputs
mod Samples
