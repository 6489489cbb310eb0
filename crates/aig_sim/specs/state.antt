-- What proofs alone need: the functions' tables, walks and steps. No contract of an exported function reaches them.
pub mod Checking
pub mod Dumping
pub mod Judging
pub mod Machine
pub mod Reaching
pub mod Replaying
pub mod Running
