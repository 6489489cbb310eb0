pub mod Distinct
pub mod KeptNames
pub mod PropertyChains
pub mod SelectedCircuit
pub mod Walks
