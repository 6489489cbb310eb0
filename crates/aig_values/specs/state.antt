-- What proofs alone need: the functions' tables, walks and steps. No contract of an exported function reaches them.
pub mod Fields
pub mod Frame
pub mod LiteralCodes
pub mod Padded
pub mod Words
