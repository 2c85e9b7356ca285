pub mod Outcomes
mod Controls
