pub mod Cache
pub mod Tests
pub mod Calls
