pub mod BytesRefusals
pub mod HintedLemmas
pub mod HintedRefusals
pub mod RenamingLemmas
pub mod TakingLemmas
pub mod TextRefusals
