-- What proofs alone need: the functions' tables, walks and steps. No contract of an exported function reaches them.
pub mod Faults
pub mod Fields
pub mod CommandMeaning
pub mod Numbers
