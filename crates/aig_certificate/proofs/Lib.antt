pub mod Assembled
pub mod ChainGates
pub mod Entered
mod Examples
pub mod Extensions
pub mod MappingLines
pub mod Marked
pub mod Naming
pub mod OwnEntries
pub mod ReadPairs
pub mod Refusals
pub mod Results
pub mod SaidPairs
