-- Rows of a bench that C gives as numbers, row by row.
-- Example: for two frames of a circuit with two inputs `1 0 2 1` are the rows `10` and `x1`.
use Rattle.std.specs.Prelude.{◌≡◌, ◌≢◌, ℕ, ◌+◌, ◌*◌, ◌≤◌, List, length, Option, Some, None}
use Rattle.std.specs.List.{flat_map}
use Prim.Native.Nat.{zero, suc}
use Rattle.aig_parts.specs.declared.ternary.Tern.{Tern}
use Rattle.aig_parts.specs.declared.ternary.Tern.TheVariants as tern
use Rattle.aig_values.specs.InputRows.{InputRows, HaveWidth}
use Rattle.aig_bench.specs.BenchState.{BenchState}

-- the number stands for a value
abbrev pub IsValue : ℕ → Type 0
IsValue n = n ≤ 2

-- the value that a number stands for
abbrev pub tern_of : ℕ → Tern
tern_of zero = tern.Zero
tern_of (suc zero) = tern.One
tern_of _ = tern.X

-- so many rows of this width, which joined are these values
pub record HasRows (width frames : ℕ) (values : List Tern) (rows : InputRows) : Type 0 where
  pub width_is : rows.width ≡ width
  pub each_row : HaveWidth width rows.rows
  pub frames_are : length rows.rows ≡ frames
  pub values_are : flat_map (λ row. row) rows.rows ≡ values

-- The rows of a bench are replaced by as many others, which joined are these values, and each gate is evaluated once a
-- frame.
pub record HasReplaced (old : BenchState) (values : List Tern) (new : BenchState) : Type 0 where
  pub rows : InputRows
  pub has_rows : HasRows (length old.pair.circuit.inputs) (length old.pair.rows) values rows
  pub pair : new.pair ≡ record old.pair { rows = rows.rows }
  pub evaluations : new.evaluations ≡ old.evaluations + length old.pair.circuit.gates * length old.pair.rows

-- there are not as many values as inputs times frames
abbrev pub HasOtherSize : List ℕ → BenchState → Type 0
HasOtherSize values state = length values ≢ length state.pair.rows * length state.pair.circuit.inputs

-- the rows of a bench that C holds are replaced
abbrev pub LiveReplaces : Option BenchState → List Tern → Option BenchState → Type 0
LiveReplaces None values new = ⊥
LiveReplaces (Some old) values new = (state : BenchState) × (new ≡ Some state) × HasReplaced old values state
