-- What proofs alone need: the functions' tables, walks and steps. No contract of an exported function reaches them.
pub mod Buckets
pub mod Current
pub mod DrivenCircuit
pub mod Engine
pub mod Entry
pub mod Filled
pub mod Latches
pub mod LevelSet
pub mod SweepOrder
pub mod Passing
pub mod Pending
pub mod Renewed
pub mod Steps
pub mod Sweep
pub mod Waiting
