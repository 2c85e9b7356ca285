pub mod Bools
pub mod Laws
pub mod Searches
pub mod Runs
