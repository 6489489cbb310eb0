-- What the words of a line mean: literals, inputs, latches and frames; and what is said of a literal.
pub mod Definitions
pub mod Literals
pub mod Meanings
pub mod Spans
pub mod Zips
