-- Edits in turn: what they lead to, when they are possible, and what they keep.
pub mod Allowed
pub mod Entries
pub mod Impossible
pub mod Kept
pub mod Leading
pub mod Results
pub mod Sessions
