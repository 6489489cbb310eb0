use Rattle.std.proofs.Common.{◌≡◌, ◌≤◌, length}
use Rattle.aig_reduce.specs.state.Needed.{AreNeeded, AreNeededCells, AreNeededInputs}
use Rattle.aig_reduce.proofs.needed.Needed.look_back.Given as goal

abbrev pub invariant-frames : goal.invariant-frames
invariant-frames g l = record {
  frame : l.frame ≤ length l.bench.pair.rows;
  marked : AreNeeded l.bench.pair l.property l.frame l.marks.here.items;
  start : l.self.start ≡ l.initial.self.start;
  width : l.self.rows.width ≡ l.initial.self.rows.width;
  rows : length l.self.rows.rows ≡ length l.initial.self.rows.rows;
  inputs : AreNeededInputs l.bench.pair l.property l.initial.self.rows.rows
      → AreNeededInputs l.bench.pair l.property l.self.rows.rows;
  cell_rows : length l.self.cells.rows ≡ length l.initial.self.cells.rows;
  cells : AreNeededCells l.bench.pair l.property l.initial.self.cells.rows
      → AreNeededCells l.bench.pair l.property l.self.cells.rows;
}

abbrev pub decreases-frames : goal.decreases-frames
decreases-frames g l = l.frame
