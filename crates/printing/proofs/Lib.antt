pub mod Lines
pub mod Cuts
pub mod Jobs
pub mod Rooms
