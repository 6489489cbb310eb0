use Rattle.std.proofs.Common.{◌≡◌, ◌+◌, All, length}
use Rattle.aig_base.specs.state.TriedLevels.{ReadsBelow}
use Rattle.aig_base.proofs.check.tried_levels.nodes_by_variable.Given as goal

abbrev pub invariant-loop-gate : goal.invariant-loop-gate
invariant-loop-gate l = record {
  size : length l.nodes.items ≡ l.max_var + 1;
  below : All (ReadsBelow (l.max_var + 1)) l.nodes.items;
}
