-- What proofs alone need: the functions' tables, walks and steps. No contract of an exported function reaches them.
pub mod Bits
pub mod NamedEntries
pub mod SymbolHash
pub mod SymbolRanks
pub mod SymbolTable
