use Rattle.std.proofs.Common.{◌≡◌, ℕ, length, slice_get, Some}
use Rattle.aig_parts.specs.declared.ternary.Tern.{Tern}
use Rattle.aig_parts.specs.declared.ternary.Tern.TheVariants.{X}
use Rattle.aig_values.specs.InputRows.{row_at}
use Rattle.aig_reduce.proofs.needed.kept.rows_of_x.Given as goal

abbrev pub invariant-loop-frame : goal.invariant-loop-frame
invariant-loop-frame l = record {
  width : l.rows.width ≡ l.width;
  count : length l.rows.rows ≡ l.frame;
  unknown : (t i : ℕ) (w : Tern) → slice_get (row_at l.rows.rows t) i ≡ Some w → w ≡ X;
}
