-- What proofs alone need: what a walk has visited, and latches that are asked for. No contract of an exported function
-- reaches them.
pub mod Asked
pub mod Walk
