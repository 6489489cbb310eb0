-- What proofs alone need: what a struct owns, and what private functions do. No contract of an exported function reaches
-- them.
pub mod Changes
pub mod Held
