use Rattle.std.proofs.Common.{◌≡◌, ◌⊎◌, ℕ, ◌<◌, length, Contains, Some, slice_get}
use Rattle.aig_causes.specs.Explanation.{IsNamed}
use Rattle.aig_causes.proofs.latch_set.LatchSet.add_all.Given as goal

abbrev pub invariant-loop-position : goal.invariant-loop-position
invariant-loop-position l = record {
  size : length l.self.flags.items ≡ length l.initial.self.flags.items;
  kept : (p : ℕ) → IsNamed l.initial.self.flags.items p → IsNamed l.self.flags.items p;
  each : (k p : ℕ) → k < l.position-index → slice_get l.positions k ≡ Some p → IsNamed l.self.flags.items p;
  only : (p : ℕ) → IsNamed l.self.flags.items p → IsNamed l.initial.self.flags.items p ⊎ Contains l.positions p;
}
