pub mod ExitStatus
pub mod Known
pub mod Shown
pub mod Source
pub mod StandardOutput
