pub mod Header
pub mod HeaderRead
pub mod Names
pub mod Paths
pub mod Signals
pub mod Vectors
pub mod state
