-- What proofs alone need. No contract of an exported function reaches it.
pub mod Reading
