pub mod BenchState
pub mod CurrentCells
pub mod Edit
pub mod Fanout
pub mod Question
pub mod Touched
pub mod state
