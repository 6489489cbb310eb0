use Rattle.std.proofs.Common.{◌≡◌, ℕ, ◌<◌, length}
use Rattle.std.specs.Prelude.{Some, slice_get}
use Rattle.aig_c.specs.Live.{CellValue, IsKeptFrom}
use Rattle.aig_c.proofs.live.questions.write_row.Given as goal

abbrev pub invariant-loop-i : goal.invariant-loop-i
invariant-loop-i l = record {
  size : length l.values ≡ length l.initial.values;
  values : (j literal value : ℕ) → j < l.i → slice_get l.literals j ≡ Some literal → slice_get l.values j ≡ Some value
      → CellValue l.bench.pair l.frame literal value;
  behind : IsKeptFrom (length l.literals) l.initial.values l.values;
}
