use Rattle.std.proofs.Common.{ℕ, suc}
use Rattle.aig_reduce.specs.state.Needed.{AddsNeeded, AreNeeded}
use Rattle.aig_reduce.proofs.needed.marking.mark_latches.Given as goal

abbrev pub invariant-loop-latch : goal.invariant-loop-latch
invariant-loop-latch g l =
    (property t : ℕ) → AreNeeded l.bench.pair property (suc t) l.ahead
    → AddsNeeded l.bench.pair property t l.initial.marks.items l.marks.items
