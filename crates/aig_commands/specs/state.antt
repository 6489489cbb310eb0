-- What proofs alone need. No contract of an exported function reaches it.
pub mod About
pub mod Asked
pub mod Extended
pub mod NamedSelections
pub mod Parts
