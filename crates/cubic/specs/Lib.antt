pub mod Cubic
pub mod DeCasteljau
pub mod Limits
pub mod Sample
