pub mod DigitLemmas
pub mod ModelLemmas
pub mod NamedLemmas
pub mod OneModel
pub mod PieceLemmas
pub mod RefusalLemmas
