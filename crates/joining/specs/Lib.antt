pub mod Joined
pub mod Call
