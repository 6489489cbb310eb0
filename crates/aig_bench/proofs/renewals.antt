pub mod Changed
pub mod Engines
pub mod RenewalLemmas
pub mod Renewing
