-- What proofs alone need: the functions' tables and lists. No contract of an exported function reaches them.
pub mod Lines
pub mod Marks
pub mod Names
pub mod Said
pub mod Sources
pub mod Table
