use Rattle.std.proofs.Common.{◌≡◌, ◌+◌, ◌<◌, ◌∷◌, ◌++◌, length, map, take, All}
use Rattle.aig_base.specs.state.LeastFaulty.{latch_variable}
use Rattle.aig_parts.specs.Literal.{variable}
use Rattle.aig_base.specs.state.Marks.{AreStarted}
use Rattle.aig_base.proofs.check.grounded.Marking.of_sources.Given as goal

abbrev pub invariant-loop-input : goal.invariant-loop-input
invariant-loop-input l = record {
  started : AreStarted (0 ∷ map variable (take l.input-index l.inputs)) l.marking.walk.met.items
      l.marking.walk.pending.items;
  below : All (λ v. v < length l.marking.walk.met.items) l.marking.walk.pending.items;
  size : length l.marking.walk.met.items ≡ l.max_var + 1;
}

abbrev pub invariant-loop-latch : goal.invariant-loop-latch
invariant-loop-latch l = record {
  started : AreStarted (0 ∷ map variable l.inputs ++ map latch_variable
      (take l.latch-index l.latches)) l.marking.walk.met.items l.marking.walk.pending.items;
  below : All (λ v. v < length l.marking.walk.met.items) l.marking.walk.pending.items;
  size : length l.marking.walk.met.items ≡ l.max_var + 1;
}
