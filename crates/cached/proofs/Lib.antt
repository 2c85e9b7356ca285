pub mod Openings
pub mod Plans
pub mod Moves
pub mod Radii
pub mod OneAnchor
