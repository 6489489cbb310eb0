use Rattle.std.proofs.Common.{◌≡◌, ◌-◌, length, replicate, take}
use Rattle.aig_bench.specs.BenchState.{CircuitAndRows}
use Rattle.aig_bench.specs.Edit.{drop_frame}
use Rattle.aig_shell.specs.State.{Leads}
use Rattle.aig_shell.proofs.session.edits.drop_frames.Given as goal

abbrev pub invariant-loop-dropped : goal.invariant-loop-dropped
invariant-loop-dropped l = record {
  leads : (q : CircuitAndRows) → Leads l.bench.pair (replicate (l.count - l.dropped) drop_frame) q
      → Leads l.initial.bench.pair (replicate l.count drop_frame) q;
  circuit : l.bench.pair.circuit ≡ l.initial.bench.pair.circuit;
  rows : l.bench.pair.rows ≡ take (length l.initial.bench.pair.rows - l.dropped) l.initial.bench.pair.rows;
}
