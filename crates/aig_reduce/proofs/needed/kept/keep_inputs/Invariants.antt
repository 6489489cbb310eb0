use Rattle.std.proofs.Common.{◌≡◌, ℕ, length}
use Rattle.aig_reduce.specs.state.Needed.{AreNeeded, AreNeededInputs}
use Rattle.aig_reduce.proofs.needed.kept.keep_inputs.Given as goal

abbrev pub invariant-loop-position : goal.invariant-loop-position
invariant-loop-position g l = record {
  width : l.rows.width ≡ l.initial.rows.width;
  rows : length l.rows.rows ≡ length l.initial.rows.rows;
  needed : (property : ℕ) → AreNeeded l.bench.pair property l.frame l.marks
      → AreNeededInputs l.bench.pair property l.initial.rows.rows → AreNeededInputs l.bench.pair property l.rows.rows;
}
