pub mod Answers
pub mod Irreducible
pub mod Reduction
pub mod state
