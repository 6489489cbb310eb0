-- Tables of values, now and as they were.
pub mod Columns
pub mod Differences
pub mod Differing
pub mod FirstRuns
pub mod OneCell
pub mod Shown
