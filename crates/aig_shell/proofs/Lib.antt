pub mod editing
pub mod explained
pub mod lines
pub mod reached
pub mod saved
pub mod tables
pub mod words
