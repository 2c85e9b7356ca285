pub mod Lent
pub mod Growths
pub mod Extents
pub mod Within
