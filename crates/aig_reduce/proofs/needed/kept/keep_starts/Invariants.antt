use Rattle.std.proofs.Common.{◌≡◌, ℕ, length}
use Rattle.aig_reduce.specs.state.Needed.{AreNeeded, AreNeededStarts}
use Rattle.aig_reduce.proofs.needed.kept.keep_starts.Given as goal

abbrev pub invariant-loop-position : goal.invariant-loop-position
invariant-loop-position g l = record {
  size : length l.start.items ≡ length l.initial.start.items;
  needed : (property : ℕ) → AreNeeded l.bench.pair property 0 l.marks
      → AreNeededStarts l.bench.pair property l.initial.start.items → AreNeededStarts l.bench.pair property l.start.items;
}
