use Rattle.std.proofs.Common.{◌≡◌, ℕ, ◌+◌, ◌*◌, ◌<◌, Some, slice_get}
use Rattle.std.specs.Prelude.{IsTrue}
use Rattle.aig_values.proofs.row.are_contiguous.Given as goal

abbrev pub invariant-loop-place : goal.invariant-loop-place
invariant-loop-place l = IsTrue l.all
    → (i n : ℕ) → i < l.place → slice_get l.literals i ≡ Some n → n ≡ 2 * (l.first + i)
