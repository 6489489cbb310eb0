pub mod FoldLemmas
pub mod QuoteLemmas
pub mod TableLemmas
pub mod TextLemmas
pub mod ValueLemmas
