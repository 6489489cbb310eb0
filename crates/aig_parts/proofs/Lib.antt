pub mod BitLemmas
pub mod LetterLemmas
pub mod NamedLemmas
pub mod RankLemmas
pub mod SymbolKeys
pub mod SymbolLemmas
pub mod TableLemmas
