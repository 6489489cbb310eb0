use Rattle.std.proofs.Common.{ℕ, ◌≤◌, length}
use Rattle.aig_reduce.specs.state.Needed.{AddsNeeded}
use Rattle.aig_reduce.proofs.needed.marking.mark_gates.Given as goal

abbrev pub invariant-gates : goal.invariant-gates
invariant-gates g l = record {
  left : l.left ≤ length l.gates;
  added : (property : ℕ) → AddsNeeded l.bench.pair property l.frame l.initial.marks.items l.marks.items;
}

abbrev pub decreases-gates : goal.decreases-gates
decreases-gates g l = l.left
