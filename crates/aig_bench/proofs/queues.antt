pub mod BitPlaces
pub mod Chained
pub mod Linked
pub mod Lowest
pub mod Once
pub mod Queued
pub mod Slots
pub mod WaitingMarks
