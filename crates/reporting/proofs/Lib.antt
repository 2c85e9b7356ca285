pub mod Inputs
pub mod Theorems
pub mod Turns
pub mod Sessions
pub mod Gathering
pub mod Drawings
pub mod JobLists
pub mod Replays
