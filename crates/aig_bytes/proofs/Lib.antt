pub mod BlockLemmas
pub mod Cuts
pub mod Decimals
pub mod DigitLemmas
pub mod GatherLemmas
pub mod PairLemmas
pub mod Results
pub mod WriteLemmas
