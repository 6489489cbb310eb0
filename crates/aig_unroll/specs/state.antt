-- What proofs alone need: the functions' tables, walks and steps. No contract of an exported function reaches them.
pub mod FrameTable
pub mod MapLines
pub mod Numbers
