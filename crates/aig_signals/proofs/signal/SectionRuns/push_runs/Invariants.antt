use Rattle.std.proofs.Common.{◌≡◌, ◌++◌, take, map}
use Rattle.aig_signals.specs.Signals.{signal_of}
use Rattle.aig_signals.proofs.signal.SectionRuns.push_runs.Given as goal

abbrev pub invariant-loop-run : goal.invariant-loop-run
invariant-loop-run l = l.signals.items ≡ l.fn.signals.items ++ map (signal_of l.self.circuit.now l.self.kind l.self.runs.now) (take l.run-index l.self.runs.now)
