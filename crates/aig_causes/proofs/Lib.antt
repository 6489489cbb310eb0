pub mod Explanations
pub mod KeptLatches
pub mod LatchSets
pub mod Laws
pub mod OwnLatches
pub mod Together
pub mod Walkers
pub mod Walks
