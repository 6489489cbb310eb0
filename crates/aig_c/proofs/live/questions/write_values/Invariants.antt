use Rattle.std.proofs.Common.{◌≡◌, ℕ, ◌<◌, length}
use Rattle.std.specs.Prelude.{Some, slice_get}
use Rattle.aig_c.specs.declared.live.questions.AigCell.{AigCell}
use Rattle.aig_c.specs.Live.{CellValue, IsKeptFrom}
use Rattle.aig_c.proofs.live.questions.write_values.Given as goal

abbrev pub invariant-loop-i : goal.invariant-loop-i
invariant-loop-i l = record {
  size : length l.values ≡ length l.initial.values;
  values : (j : ℕ) (cell : AigCell) (value : ℕ) → j < l.i → slice_get l.cells j ≡ Some cell → slice_get l.values j ≡ Some value
      → CellValue l.bench.pair cell.frame cell.literal value;
  behind : IsKeptFrom (length l.cells) l.initial.values l.values;
}
