pub mod Command
pub mod Faults
pub mod Flushed
pub mod Given
pub mod Position
pub mod Status
