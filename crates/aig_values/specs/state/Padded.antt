-- Rows with cells after those of their variables: room for variables that come later.
-- Example: 0, 1, x, x is a row for two variables with room for four.
use Rattle.std.specs.Prelude.{◌≡◌, ℕ, ◌+◌, ◌-◌, ◌<◌, ◌≤◌, Bool, List, ◌++◌, length, drop, replicate, All}
use Rattle.aig_parts.specs.Formed.{limit}
use Rattle.aig_parts.specs.declared.ternary.Tern.{Tern}
use Rattle.aig_parts.specs.declared.ternary.Tern.TheVariants.{X}
use Rattle.aig_parts.specs.Limits.{frame_limit}
use Rattle.aig_values.specs.InputRows.{row_at}

-- how many cells are asked for at a time: some, and no more than there are variables
abbrev pub IsRowSize : ℕ → Type 0
IsRowSize size = (0 < size) × (size ≤ limit + 1)

-- a row for n variables with cells for as many as the room says; all cells after the n are x, as a cell that comes
-- later has to be
abbrev pub IsPadded : ℕ → ℕ → List Tern → Type 0
IsPadded n room row = (room ≤ length row) × (drop n row ≡ replicate (length row - n) X)

-- the rows of a grid with n variables, within a bench's limits
pub record ArePadded (n room : ℕ) (flags : List Bool) (rows : List (List Tern)) : Type 0 where
  pub count : length rows ≤ frame_limit
  pub constant : 0 < n
  pub fits : n ≤ room
  pub limit : room ≤ limit + 1
  pub flagged : length flags ≡ n
  pub each : All (IsPadded n room) rows

-- a row with some more cells, all x
abbrev pub IsLengthened : List Tern → List Tern → Type 0
IsLengthened old new = (k : ℕ) × (new ≡ old ++ replicate k X)

-- rows, each with some more cells
pub record AreLengthened (old new : List (List Tern)) : Type 0 where
  pub size : length new ≡ length old
  pub each : (t : ℕ) → IsLengthened (row_at old t) (row_at new t)
