pub mod Appended
pub mod AppendedLevels
pub mod AppendedReaders
pub mod Outputs
