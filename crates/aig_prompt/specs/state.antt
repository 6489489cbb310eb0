pub mod Gathered
pub mod Texts
