mod EmptyFrames
pub mod FrameBounds
pub mod FrameLiterals
pub mod FrameSteps
pub mod Frames
pub mod GuardedValues
pub mod Guarding
pub mod InputMapLaw
pub mod InputMapLines
pub mod KeptLines
pub mod NumberLemmas
pub mod NumberedGates
pub mod SymbolLemmas
pub mod UnrolledCircuit
pub mod UnrolledReady
pub mod UnrolledRow
pub mod UnrolledValues
