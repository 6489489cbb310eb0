use Rattle.std.proofs.Common.{◌≡◌, ◌<◌, ℕ, Some, slice_get}
use Rattle.aig_causes.specs.Causes.{moment}
use Rattle.aig_causes.specs.Explanation.{KeepsValue}
use Rattle.aig_causes.proofs.kept.are_kept.Given as goal

abbrev pub invariant-loop-position : goal.invariant-loop-position
invariant-loop-position g l =
    (k p : ℕ) → k < l.position-index → slice_get l.latches k ≡ Some p
    → KeepsValue l.bench.pair.circuit (moment l.bench.pair l.frame) p
