use Rattle.std.proofs.Common.{◌≡◌, ◌-◌, ◌++◌, replicate}
use Rattle.aig_bench.specs.BenchState.{CircuitAndRows}
use Rattle.aig_bench.specs.Edit.{add_frame}
use Rattle.aig_shell.specs.State.{Leads}
use Rattle.aig_shell.proofs.session.edits.add_frames.Given as goal

abbrev pub invariant-loop-added : goal.invariant-loop-added
invariant-loop-added l = record {
  leads : (q : CircuitAndRows) → Leads l.bench.pair (replicate (l.count - l.added) (add_frame l.row)) q
      → Leads l.initial.bench.pair (replicate l.count (add_frame l.row)) q;
  circuit : l.bench.pair.circuit ≡ l.initial.bench.pair.circuit;
  rows : l.bench.pair.rows ≡ l.initial.bench.pair.rows ++ replicate l.added l.row;
}
