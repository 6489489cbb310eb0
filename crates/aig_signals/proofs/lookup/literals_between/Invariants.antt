use Rattle.std.proofs.Common.{◌≡◌, ◌-◌, ◌≤◌, map}
use Rattle.std.specs.List.{range_with_len}
use Rattle.aig_signals.specs.Names.{literal_of}
use Rattle.aig_signals.proofs.lookup.literals_between.Given as goal

abbrev pub invariant-loop-position : goal.invariant-loop-position
invariant-loop-position l = record {
  from : l.first ≤ l.position;
  literals : l.literals ≡ map (literal_of l.circuit l.kind) (range_with_len l.first (l.position - l.first));
}
