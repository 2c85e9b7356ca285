pub mod Limits
pub mod Magnitudes
pub mod Orders
pub mod PowersOfTwo
pub mod Signs
pub mod Sums
pub mod Tables
