pub mod Kinds
pub mod Encoding
pub mod Replay
pub mod Claim
