pub mod Answers
pub mod FrameLiteral
pub mod InputMap
pub mod Unrollable
pub mod Unrolled
pub mod UnrolledValues
pub mod state
