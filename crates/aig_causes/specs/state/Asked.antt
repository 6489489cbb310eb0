-- Literals that are all ones of latches.
use Rattle.std.specs.Prelude.{◌≡◌, ℕ, List, Contains, Some, slice_get}
use Rattle.aig_parts.specs.declared.latch.Latch.{Latch}
use Rattle.aig_parts.specs.declared.raw.Raw.{Raw}

-- these are the latches of these literals
pub record AreLatchesOf (raw : Raw) (literals latches : List ℕ) : Type 0 where
  pub each : (l : ℕ) → Contains literals l
      → (p : ℕ) × Contains latches p × ((x : Latch) × (slice_get raw.latches p ≡ Some x) × (x.lit ≡ l))
  pub only : (p : ℕ) → Contains latches p → (x : Latch) × (slice_get raw.latches p ≡ Some x) × Contains literals x.lit
