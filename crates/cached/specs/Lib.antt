pub mod Opening
pub mod Doing
pub mod Planning
