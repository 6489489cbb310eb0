use Rattle.std.proofs.Common.{◌≡◌, length}
use Rattle.aig_base.proofs.check.tried_levels.tried_levels.Given as goal

abbrev pub invariant-loop-node : goal.invariant-loop-node
invariant-loop-node l = length l.levels.items ≡ l.node-index
