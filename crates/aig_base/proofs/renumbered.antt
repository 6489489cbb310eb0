pub mod NoOtherValue
pub mod RenumberedCircuit
pub mod RenumberedParts
pub mod RenumberedReady
pub mod RenumberedStart
pub mod RenumberedValueLemmas
pub mod RenewedGates
pub mod Renumberings
