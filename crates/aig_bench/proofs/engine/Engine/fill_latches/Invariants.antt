use Rattle.std.proofs.Common.{◌≡◌, ℕ, ◌<◌, Some, slice_get}
use Rattle.aig_parts.specs.declared.latch.Latch.{Latch}
use Rattle.aig_parts.specs.Literal.{variable}
use Rattle.aig_values.specs.InputRows.{row_at}
use Rattle.aig_bench.specs.state.Current.{HoldsInPair}
use Rattle.aig_bench.specs.state.Filled.{FillsRow, KeepsRowValues}
use Rattle.aig_bench.proofs.engine.Engine.fill_latches.Given as goal

abbrev pub invariant-loop-position : goal.invariant-loop-position
invariant-loop-position g l = record {
  fills : FillsRow l.frame 0 l.initial.self l.self;
  keeps : KeepsRowValues l.initial.self.pair l.frame (row_at l.initial.self.cells l.frame) (row_at l.self.cells l.frame);
  latches : (i : ℕ) (x : Latch) → i < l.position → slice_get l.initial.self.pair.circuit.latches i ≡ Some x
      → HoldsInPair l.initial.self.pair l.frame (row_at l.self.cells l.frame) (variable x.lit);
}
