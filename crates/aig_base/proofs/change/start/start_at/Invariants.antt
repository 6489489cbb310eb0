use Rattle.std.proofs.Common.{◌≡◌, ◌++◌, take, drop}
use Rattle.aig_base.specs.Value.{start_of}
use Rattle.aig_base.specs.Resets.{HasOtherResets}
use Rattle.aig_base.proofs.change.start.start_at.Given as goal

abbrev pub invariant-loop-position : goal.invariant-loop-position
invariant-loop-position l = record {
  resets : HasOtherResets l.initial.circuit l.circuit;
  start : start_of l.circuit ≡ take l.position l.start ++ drop l.position (start_of l.initial.circuit);
}
