use Rattle.std.proofs.Common.{◌≡◌, ◌-◌, ◌≤◌, map}
use Rattle.std.specs.List.{range_with_len}
use Rattle.aig_bench.specs.BenchState.{CircuitAndRows}
use Rattle.aig_signals.specs.Names.{literal_of}
use Rattle.aig_shell.specs.Session.{IsFirst}
use Rattle.aig_shell.proofs.session.Session.signal_literals.Given as goal

abbrev pub invariant-loop-position : goal.invariant-loop-position
invariant-loop-position l = record {
  current : l.current.items
      ≡ map (literal_of l.self.run.bench.pair.circuit l.signal.kind) (range_with_len l.signal.first (l.position - l.signal.first));
  was : (p : CircuitAndRows) → IsFirst l.self p
      → l.was.items ≡ map (literal_of p.circuit l.signal.kind) (range_with_len l.signal.first (l.position - l.signal.first));
}
