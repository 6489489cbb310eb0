pub mod Acyclic
pub mod Ascending
pub mod Faults
pub mod Marking
pub mod NoFault
pub mod TriedLevelLemmas
pub mod ReadWalks
pub mod Walks
