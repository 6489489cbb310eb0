pub mod Formed
pub mod Letters
pub mod Limits
pub mod Literal
pub mod SymbolPlaces
pub mod Ternary
pub mod state
