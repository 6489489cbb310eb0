pub mod EveryGate
pub mod Others
pub mod PassLemmas
pub mod PassingStep
pub mod Puts
pub mod SweepEnds
pub mod SweepSteps
pub mod Sweeps
