pub mod Grown
pub mod GrownBench
pub mod Lengthened
pub mod Outputs
