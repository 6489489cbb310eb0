-- What proofs alone need: what a bench keeps of a witness while its values are tried.
pub mod Looks
pub mod Needed
pub mod Places
pub mod Reducing
pub mod Steps
