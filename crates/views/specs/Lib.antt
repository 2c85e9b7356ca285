pub mod View
pub mod Search
