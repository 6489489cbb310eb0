-- What is kept in files, or refused, and the state after it.
pub mod Dumps
pub mod Saved
