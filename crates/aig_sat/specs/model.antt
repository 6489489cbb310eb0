pub mod ModelText
pub mod Named
pub mod state
