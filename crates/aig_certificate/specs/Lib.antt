pub mod Answers
pub mod Extension
pub mod Mapping
pub mod Shared
pub mod Strengthened
pub mod state
