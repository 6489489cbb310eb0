pub mod Chains
pub mod Counting
pub mod Evens
pub mod Gets
pub mod Items
pub mod Joined
pub mod LeastAmong
pub mod Positions
