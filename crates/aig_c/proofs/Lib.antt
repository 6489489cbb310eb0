pub mod EditLemmas
pub mod Endings
pub mod Flags
pub mod Seats
pub mod Silent
