-- The cells of a grid: a row a frame, a value a variable.
-- Example: in the cells 0, 1, x literal 5 is x and literal 3 is 0; with a new cell they are 0, 1, x, x.
use Rattle.std.specs.Prelude.{◌≡◌, ℕ, ◌-◌, ◌%◌, ◌<◌, Bool, true, List, [], ◌∷◌, ◌++◌, length, replicate, fold, Some}
use Rattle.std.specs.Prelude.{slice_get, slice_set, slice_index_or, nat_eq, if◌then◌else◌}
use Rattle.aig_parts.specs.declared.ternary.Tern.{Tern}
use Rattle.aig_parts.specs.declared.ternary.Tern.TheVariants.{Zero, X}
use Rattle.aig_parts.specs.declared.gate.Gate.{Gate}
use Rattle.aig_parts.specs.Literal.{variable, IsEven}
use Rattle.aig_parts.specs.Ternary.{kleene_and, kleene_not}
use Rattle.aig_values.specs.InputRows.{row_at}

-- the value of a literal by the cell of its variable
abbrev pub literal_value : List Tern → ℕ → Tern
literal_value row l =
    if nat_eq (l % 2) 0 then slice_index_or row (variable l) X else kleene_not (slice_index_or row (variable l) X)

-- the AND of a gate's right sides by their cells
abbrev pub gate_value : List Tern → Gate → Tern
gate_value row g = kleene_and (literal_value row g.rhs0) (literal_value row g.rhs1)

-- the row with the cell of an evaluated gate
abbrev pub with_gate_value : List Tern → Gate → List Tern
with_gate_value row g = slice_set row (variable g.lhs) (gate_value row g)

-- rows after gates were evaluated at one frame, one after the other
abbrev pub with_swept_row : List (List Tern) → ℕ → List Gate → List (List Tern)
with_swept_row rows t gates = slice_set rows t (fold with_gate_value (row_at rows t) gates)

-- the variables of a gate are among the first n
pub record HasVariablesBelow (n : ℕ) (g : Gate) : Type 0 where
  pub lhs : variable g.lhs < n
  pub rhs0 : variable g.rhs0 < n
  pub rhs1 : variable g.rhs1 < n

-- a gate that can be evaluated: its left side is one of a gate, and its right sides have cells
pub record HasCells (flags : List Bool) (g : Gate) : Type 0 where
  pub even : IsEven g.lhs
  pub gate : slice_get flags (variable g.lhs) ≡ Some true
  pub rhs0 : variable g.rhs0 < length flags
  pub rhs1 : variable g.rhs1 < length flags

-- a new row of n cells: 0 at variable 0, x everywhere else
abbrev pub fresh_row : ℕ → List Tern
fresh_row n = Zero ∷ replicate (n - 1) X

-- a row with the cell of one more variable, x
abbrev pub with_new_cell : List Tern → List Tern
with_new_cell row = row ++ X ∷ []

-- what a grid is seen as: the values row by row, which variables are gates, how many evaluations there were, and
-- whether one more gate fits without memory
pub record Cells : Type 0 where
  pub cells : List (List Tern)
  pub gate_flags : List Bool
  pub evaluations : ℕ
  pub room : Bool
