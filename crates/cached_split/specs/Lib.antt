pub mod Splitting
pub mod Planning
