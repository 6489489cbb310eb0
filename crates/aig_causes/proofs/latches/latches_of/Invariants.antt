use Rattle.std.proofs.Common.{◌≡◌, ℕ, ◌<◌, Contains, Some, slice_get}
use Rattle.aig_parts.specs.declared.latch.Latch.{Latch}
use Rattle.aig_causes.proofs.latches.latches_of.Given as goal

abbrev pub invariant-loop-literal : goal.invariant-loop-literal
invariant-loop-literal l = record {
  each : (k y : ℕ) → k < l.literal-index → slice_get l.literals k ≡ Some y
      → (p : ℕ) × Contains l.latches.items p × ((x : Latch) × (slice_get l.circuit.latches p ≡ Some x) × (x.lit ≡ y));
  only : (p : ℕ) → Contains l.latches.items p
      → (x : Latch) × (slice_get l.circuit.latches p ≡ Some x) × Contains l.literals x.lit;
}
