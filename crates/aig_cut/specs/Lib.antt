pub mod Cut
pub mod CutOf
pub mod Cuts
pub mod Lines
pub mod state
