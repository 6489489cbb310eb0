pub mod CircuitFiles
pub mod Files
pub mod GivenRuns
pub mod Written
