-- What proofs alone need: the marks of parts. No contract of an exported function reaches them.
pub mod Marks
