pub mod Carrying
pub mod Entries
pub mod LatchChains
pub mod LatchLists
pub mod NextLatches
pub mod Quiet
