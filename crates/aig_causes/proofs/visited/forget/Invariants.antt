use Rattle.std.proofs.Common.{◌≡◌, ℕ, ◌<◌, length, slice_get, Some}
use Rattle.aig_causes.proofs.visited.forget.Given as goal

abbrev pub invariant-loop-place : goal.invariant-loop-place
invariant-loop-place l = record {
  size : length l.marks ≡ length l.initial.marks;
  none : (v n : ℕ) → v < l.place → slice_get l.marks v ≡ Some n → n ≡ 0;
}
