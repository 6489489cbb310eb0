pub mod Edited
pub mod FourReaders
pub mod Named
pub mod Refusals
pub mod Rewired
