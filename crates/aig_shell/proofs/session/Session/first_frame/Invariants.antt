use Rattle.aig_bench.specs.BenchState.{CircuitAndRows}
use Rattle.aig_shell.specs.Session.{IsFirst}
use Rattle.aig_shell.proofs.tables.Differing.{IsEndSoFar, IsLeast}
use Rattle.aig_shell.proofs.session.Session.first_frame.Given as goal

abbrev pub invariant-loop-signal : goal.invariant-loop-signal
invariant-loop-signal l = record {
  end : IsEndSoFar l.first l.end-2 l.least l.end;
  least : (p : CircuitAndRows) → IsFirst l.self p
      → IsLeast l.self.run.bench.pair p l.first l.end-2 l.signal-items l.signal-index l.least;
}
