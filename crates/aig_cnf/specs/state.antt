-- What proofs alone need. No contract of an exported function reaches it.
pub mod Added
pub mod Cones
pub mod Kept
pub mod Made
pub mod Over
pub mod Terms
