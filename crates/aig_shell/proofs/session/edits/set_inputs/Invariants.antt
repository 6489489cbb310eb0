use Rattle.std.proofs.Common.{◌≡◌, length, drop}
use Rattle.aig_bench.specs.BenchState.{CircuitAndRows}
use Rattle.aig_shell.specs.State.{Leads, row_edits}
use Rattle.aig_shell.proofs.session.edits.set_inputs.Given as goal

abbrev pub invariant-loop-place : goal.invariant-loop-place
invariant-loop-place l = record {
  leads : (q : CircuitAndRows) → Leads l.bench.pair (row_edits l.frame (drop l.place l.positions) (drop l.place l.values)) q
      → Leads l.initial.bench.pair (row_edits l.frame l.positions l.values) q;
  frames : length l.bench.pair.rows ≡ length l.initial.bench.pair.rows;
  circuit : l.bench.pair.circuit ≡ l.initial.bench.pair.circuit;
}
