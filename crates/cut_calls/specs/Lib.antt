pub mod PlainCut
pub mod Made
