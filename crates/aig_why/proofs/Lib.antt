pub mod FrameLemmas
pub mod NamingLemmas
pub mod OtherResets
pub mod RunLemmas
pub mod StartLemmas
pub mod TextLemmas
pub mod WholeLemmas
