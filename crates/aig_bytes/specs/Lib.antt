pub mod Buffered
pub mod Bytes
pub mod Filled
pub mod Flow
pub mod Gathered
pub mod Term
pub mod Wrapped
pub mod state
