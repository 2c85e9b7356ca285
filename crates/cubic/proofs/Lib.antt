pub mod StepCounts
pub mod DeCasteljau
pub mod Chords
pub mod FiniteChords
