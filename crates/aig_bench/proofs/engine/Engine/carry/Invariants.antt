use Rattle.std.proofs.Common.{◌<◌, suc, length}
use Rattle.aig_base.specs.state.Marks.{IsMarked}
use Rattle.aig_values.specs.InputRows.{row_at}
use Rattle.aig_bench.specs.state.Current.{IsCurrentBefore}
use Rattle.aig_bench.specs.state.Engine.{ChangesRow}
use Rattle.aig_bench.specs.state.Entry.{Carries}
use Rattle.aig_bench.proofs.carries.LatchLists.{listed}
use Rattle.aig_bench.proofs.engine.Engine.carry.Given as goal

abbrev pub invariant-loop-number : goal.invariant-loop-number
invariant-loop-number g l = record {
  frame : l.frame < length l.self.pair.rows;
  before : IsCurrentBefore l.self.pair l.frame l.self.cells;
  row : ChangesRow l.frame 0 l.initial.self l.self;
  carries : Carries l.initial.self.pair l.frame
      (λ i. IsMarked l.initial.self.here (suc i) × (IsMarked l.self.here (suc i) → ⊥))
      (row_at l.initial.self.cells l.frame) l.initial.self.queued (row_at l.self.cells l.frame) l.self.queued;
}

abbrev pub decreases-loop-number : goal.decreases-loop-number
decreases-loop-number g l = listed l.self.here
