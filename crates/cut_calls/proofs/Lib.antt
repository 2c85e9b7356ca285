pub mod Laying
pub mod Handed
pub mod Gathered
pub mod Counts
