use Rattle.std.proofs.Common.{ℕ, ◌<◌, length}
use Rattle.aig_reduce.specs.state.Needed.{AddsNeeded}
use Rattle.aig_reduce.proofs.needed.marking.mark_constraints.Given as goal

abbrev pub invariant-loop-literal : goal.invariant-loop-literal
invariant-loop-literal g l =
    (property t : ℕ) → t < length l.bench.pair.rows
    → AddsNeeded l.bench.pair property t l.initial.marks.items l.marks.items
