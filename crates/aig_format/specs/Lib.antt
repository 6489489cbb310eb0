pub mod Delta
pub mod Header
pub mod Spelling
pub mod Spells
pub mod FileReading
pub mod Formats
pub mod state
