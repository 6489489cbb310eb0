pub mod Called
pub mod Found
pub mod Json
pub mod NameHash
pub mod Naming
pub mod PropertyNaming
pub mod Seen
pub mod Wanted
