pub mod Bars
pub mod Walked
pub mod Offsets
pub mod Subpaths
pub mod Outcomes
pub mod Theorems
pub mod HitAnchors
pub mod Candidates
