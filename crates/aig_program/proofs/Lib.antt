pub mod Asked
pub mod Endings
pub mod RunFiles
pub mod TextPositions
