use Rattle.std.proofs.Common.{◌≡◌, ◌-◌, length}
use Rattle.aig_bench.specs.BenchState.{CircuitAndRows}
use Rattle.aig_shell.specs.State.{Leads, set_edits}
use Rattle.aig_shell.proofs.session.edits.set_one_by_one.Given as goal

abbrev pub invariant-loop-frame : goal.invariant-loop-frame
invariant-loop-frame l = record {
  leads : (q : CircuitAndRows) → Leads l.bench.pair (set_edits l.frame (l.end - l.frame) l.positions l.values) q
      → Leads l.initial.bench.pair (set_edits l.first (l.end - l.first) l.positions l.values) q;
  frames : length l.bench.pair.rows ≡ length l.initial.bench.pair.rows;
  circuit : l.bench.pair.circuit ≡ l.initial.bench.pair.circuit;
}
