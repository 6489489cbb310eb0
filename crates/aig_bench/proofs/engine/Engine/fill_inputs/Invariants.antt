use Rattle.std.proofs.Common.{◌≡◌, ℕ, ◌<◌, Some, slice_get}
use Rattle.aig_parts.specs.Literal.{variable}
use Rattle.aig_values.specs.InputRows.{row_at}
use Rattle.aig_bench.specs.state.Current.{HoldsInPair}
use Rattle.aig_bench.specs.state.Filled.{FillsRow}
use Rattle.aig_bench.proofs.engine.Engine.fill_inputs.Given as goal

abbrev pub invariant-loop-position : goal.invariant-loop-position
invariant-loop-position g l = record {
  fills : FillsRow l.frame 0 l.initial.self l.self;
  inputs : (i k : ℕ) → i < l.position → slice_get l.initial.self.pair.circuit.inputs i ≡ Some k
      → HoldsInPair l.initial.self.pair l.frame (row_at l.self.cells l.frame) (variable k);
}
