pub mod Lines
pub mod Named
pub mod Why
pub mod state
