-- The cells of a bench: a row a frame, a value a variable (our own choice).
-- Example: `examples/two_gates.aag` and the row `11`: one row, 0, 1, 1, 1, 1.
use Rattle.std.specs.Prelude.{◌≡◌, ℕ, ◌*◌, ◌<◌, List, length, Some, slice_get}
use Rattle.aig_parts.specs.declared.ternary.Tern.{Tern}
use Rattle.aig_base.specs.Sections.{IsDefined}
use Rattle.aig_values.specs.InputRows.{row_at}
use Rattle.aig_bench.specs.BenchState.{CircuitAndRows, HasValue}

-- there is a row a frame, in which the cell of each defined variable is its value
pub record HasCurrentCells (p : CircuitAndRows) (cells : List (List Tern)) : Type 0 where
  pub rows : length cells ≡ length p.rows
  pub values : (t v : ℕ) → t < length p.rows → IsDefined p.circuit v
      → (w : Tern) × (slice_get (row_at cells t) v ≡ Some w) × HasValue p t (2 * v) w
