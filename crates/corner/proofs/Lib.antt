pub mod Chains
pub mod Ends
pub mod Measures
pub mod TriedKinds
