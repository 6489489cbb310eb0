-- What proofs alone need: the functions' tables, walks and steps. No contract of an exported function reaches them.
pub mod Fits
pub mod HeaderCounts
pub mod Held
pub mod ReaderAnswers
pub mod Reading
pub mod ReadingFile
pub mod ReadingNames
pub mod ReadingSections
pub mod Reads
