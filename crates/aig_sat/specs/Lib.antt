pub mod checker
pub mod model
pub mod proof
