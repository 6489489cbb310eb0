-- What proofs alone need: a naming before and after a line, and what is asked for as the command keeps it.
pub mod Asked
pub mod Naming
