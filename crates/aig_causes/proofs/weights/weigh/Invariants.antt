use Rattle.std.proofs.Common.{◌≡◌, length}
use Rattle.aig_causes.proofs.weights.weigh.Given as goal

abbrev pub invariant-loop-gate : goal.invariant-loop-gate
invariant-loop-gate g l = length l.weights.items ≡ length l.initial.weights.items
