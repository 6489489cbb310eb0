use Rattle.std.proofs.Common.{◌≡◌, ◌-◌}
use Rattle.aig_bench.specs.BenchState.{CircuitAndRows}
use Rattle.aig_shell.specs.Session.{IsFirst}
use Rattle.aig_shell.proofs.tables.Differing.{AreRowsBefore}
use Rattle.aig_shell.proofs.session.Session.push_differences.Given as goal

abbrev pub invariant-loop-signal : goal.invariant-loop-signal
invariant-loop-signal l = record {
  first : l.table.first ≡ l.first;
  frames : l.table.frames ≡ l.end - l.first;
  rows : (p : CircuitAndRows) → IsFirst l.self p
      → AreRowsBefore l.self.run.bench.pair p l.first l.end l.signal-items l.signal-index l.table.rows.items;
}
