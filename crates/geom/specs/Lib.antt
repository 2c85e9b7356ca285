pub mod Point
pub mod Flat
pub mod Affine
pub mod Box
