pub mod Smoothed
pub mod Bent
pub mod Edits
