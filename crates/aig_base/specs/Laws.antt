-- What the laws say of parts, with a name.
-- Example: literal 8 of `examples/two_gates.aag` is x under `x1`, so nothing is said of it; literal 6 is 0 under `x0`,
-- and stays 0 under `10`.
use Rattle.std.specs.Prelude.{◌≢◌, ℕ, List}
use Rattle.aig_parts.specs.declared.fault.Fault.{Fault}
use Rattle.aig_parts.specs.declared.raw.Raw.{Raw}
use Rattle.aig_parts.specs.declared.ternary.Tern.{Tern}
use Rattle.aig_parts.specs.declared.ternary.Tern.TheVariants.{X}
use Rattle.aig_base.specs.FirstFault.{FaultApplies}
use Rattle.aig_base.specs.Value.{Value}

-- what a literal is under the first start and rows it is under the others too, unless it is x
abbrev pub KnownValuesStay : Raw → List Tern → List (List Tern) → List Tern → List (List Tern) → Type 0
KnownValuesStay raw start rows start' rows' =
    (t l : ℕ) (w : Tern) → w ≢ X → Value raw start rows t l w → Value raw start' rows' t l w

abbrev pub HasNoFault : Raw → Type 0
HasNoFault raw = (f : Fault) → FaultApplies raw f → ⊥
