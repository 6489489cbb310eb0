pub mod GateListLemmas
pub mod ListPlaceLemmas
pub mod ListedReaders
pub mod ReaderLists
pub mod SlotTables
pub mod TidyLists
