pub mod AllowedStarts
pub mod NegatedValues
pub mod OneValue
pub mod Premises
pub mod Refined
pub mod Resets
pub mod UniqueValue
pub mod ValueRules
