pub mod checking
pub mod models
pub mod reading
