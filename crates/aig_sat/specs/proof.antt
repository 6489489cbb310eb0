pub mod HintedText
pub mod ProofBytes
pub mod ProofText
pub mod Proofs
pub mod Reads
pub mod Steps
pub mod state
