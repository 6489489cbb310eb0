use Rattle.std.proofs.Common.{◌≡◌, ◌-◌, ◌≤◌, length}
use Rattle.std.specs.Prelude.{reverse}
use Rattle.aig_signals.specs.Names.{literals_of}
use Rattle.aig_signals.specs.Signals.{runs_from}
use Rattle.aig_signals.proofs.run.runs_of.Given as goal

abbrev pub invariant-loop-position : goal.invariant-loop-position
invariant-loop-position l = record {
  within : l.position ≤ length (literals_of l.circuit l.kind);
  runs : reverse l.runs.items ≡ runs_from l.circuit l.kind l.position (length (literals_of l.circuit l.kind) - l.position);
}

abbrev pub decreases-loop-position : goal.decreases-loop-position
decreases-loop-position l = l.position
