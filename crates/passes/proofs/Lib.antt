pub mod FoundCorners
pub mod SmallRadii
