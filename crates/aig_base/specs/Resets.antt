-- Circuits that differ by the resets of their latches.
use Rattle.std.specs.Prelude.{◌≡◌}
use Rattle.std.specs.List.{AllZip}
use Rattle.aig_parts.specs.declared.latch.Latch.{Latch}
use Rattle.aig_parts.specs.declared.raw.Raw.{Raw}

-- a latch with the same literals but for its reset
abbrev pub IsSameLatch : Latch → Latch → Type 0
IsSameLatch x y = (y.lit ≡ x.lit) × (y.next ≡ x.next)

-- the second circuit differs by the resets of its latches, as far as values, verdicts and names go
pub record HasOtherResets (raw other : Raw) : Type 0 where
  pub inputs : other.inputs ≡ raw.inputs
  pub latches : AllZip IsSameLatch raw.latches other.latches
  pub outputs : other.outputs ≡ raw.outputs
  pub bad : other.bad ≡ raw.bad
  pub constraints : other.constraints ≡ raw.constraints
  pub gates : other.gates ≡ raw.gates
  pub size : other.max_var ≡ raw.max_var
  pub symbols : other.symbols ≡ raw.symbols
