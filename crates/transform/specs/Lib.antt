pub mod Mapped
pub mod Call
