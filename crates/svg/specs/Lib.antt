pub mod Path
pub mod Pieces
