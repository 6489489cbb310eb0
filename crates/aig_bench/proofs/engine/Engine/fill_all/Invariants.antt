use Rattle.std.proofs.Common.{◌≡◌, ◌+◌, ◌*◌, length}
use Rattle.aig_bench.specs.state.Current.{AreCurrent}
use Rattle.aig_bench.specs.state.Filled.{FillsCells}
use Rattle.aig_bench.proofs.engine.Engine.fill_all.Given as goal

abbrev pub invariant-loop-frame : goal.invariant-loop-frame
invariant-loop-frame g l = record {
  fills : FillsCells l.initial.self l.self;
  current : AreCurrent l.initial.self.pair l.frame l.self.cells;
  count : l.self.evaluations ≡ l.initial.self.evaluations + length l.initial.self.pair.circuit.gates * l.frame;
}
