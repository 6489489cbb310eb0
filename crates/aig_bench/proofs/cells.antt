pub mod CellLemmas
pub mod Definitions
pub mod Earlier
pub mod Flags
pub mod Kept
pub mod NewGrids
pub mod Values
