pub mod Causes
pub mod Explanation
pub mod Lines
pub mod state
