pub mod Known
pub mod Stages
pub mod Bounds
pub mod Dispatch
pub mod Outcomes
pub mod Controls
