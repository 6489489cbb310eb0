-- Which properties a run reaches.
pub mod Checking
pub mod Reaching
pub mod Starting
