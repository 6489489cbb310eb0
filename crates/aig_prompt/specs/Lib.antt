pub mod Folded
pub mod Shown
pub mod Table
pub mod Texts
pub mod Value
pub mod Words
pub mod state
