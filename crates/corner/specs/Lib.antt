pub mod Corner
pub mod Cut
pub mod Kinds
