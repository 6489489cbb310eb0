use Rattle.std.proofs.Common.{◌≡◌, [], All, length}
use Rattle.aig_base.specs.state.TriedLevels.{ReadsBelow}
use Rattle.aig_base.proofs.check.tried_levels.find_levels.Given as goal

abbrev pub invariant-loop-variable : goal.invariant-loop-variable
invariant-loop-variable l = record {
  size : length l.nodes ≡ length l.initial.nodes;
  nodes : All (ReadsBelow (length l.initial.nodes)) l.nodes;
  none : l.pending.items ≡ [];
}
