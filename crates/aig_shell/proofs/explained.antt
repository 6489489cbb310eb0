-- The lines of an explanation, and those that are shown.
pub mod Asking
pub mod Explained
