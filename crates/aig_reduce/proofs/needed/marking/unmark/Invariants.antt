use Rattle.std.proofs.Common.{ℕ, ◌<◌, ◌≡◌, length}
use Rattle.aig_base.specs.state.Marks.{IsMarked}
use Rattle.aig_reduce.proofs.needed.marking.unmark.Given as goal

abbrev pub invariant-loop-place : goal.invariant-loop-place
invariant-loop-place l = record {
  size : length l.marks.items ≡ length l.initial.marks.items;
  none : (v : ℕ) → v < l.place → IsMarked l.marks.items v → ⊥;
}
