pub mod CutSquare
pub mod Prints
pub mod Holds
