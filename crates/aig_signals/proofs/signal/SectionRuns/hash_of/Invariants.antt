use Rattle.std.proofs.Common.{◌≡◌, take, map}
use Rattle.aig_signals.specs.Names.{first_name}
use Rattle.aig_signals.specs.state.NameHash.{hash_by}
use Rattle.aig_signals.proofs.signal.SectionRuns.hash_of.Given as goal

abbrev pub invariant-loop-run : goal.invariant-loop-run
invariant-loop-run l = l.hash ≡ hash_by (map (λ run. first_name l.self.circuit.now l.self.kind run.first) (take l.run-index l.self.runs.now))
