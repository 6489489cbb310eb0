use Rattle.std.proofs.Common.{◌≡◌, ℕ, length}
use Rattle.aig_reduce.specs.state.Needed.{AreNeeded, AreNeededCells}
use Rattle.aig_reduce.proofs.needed.kept.keep_cells.Given as goal

abbrev pub invariant-loop-variable : goal.invariant-loop-variable
invariant-loop-variable g l = record {
  width : l.cells.width ≡ l.initial.cells.width;
  rows : length l.cells.rows ≡ length l.initial.cells.rows;
  needed : (property : ℕ) → AreNeeded l.bench.pair property l.frame l.marks
      → AreNeededCells l.bench.pair property l.initial.cells.rows → AreNeededCells l.bench.pair property l.cells.rows;
}
