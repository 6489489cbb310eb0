-- What a stimulus is seen as: rows of one width, a row a frame, a value a primary input (our own choice).
-- Example: `with_cell` at frame 0, place 1, value 0: `11` becomes `10`.
use Rattle.std.specs.Prelude.{◌≡◌, ℕ, List, [], length, All, slice_set, slice_index_or}
use Rattle.aig_parts.specs.declared.ternary.Tern.{Tern}

pub record InputRows : Type 0 where
  pub width : ℕ
  pub rows : List (List Tern)

abbrev pub HaveWidth : ℕ → List (List Tern) → Type 0
HaveWidth width rows = All (λ row. length row ≡ width) rows

-- the rows with another value at one place of one frame
abbrev pub with_cell : List (List Tern) → ℕ → ℕ → Tern → List (List Tern)
with_cell rows t p w = slice_set rows t (slice_set (slice_index_or rows t []) p w)

-- the row of a frame
abbrev pub row_at : List (List Tern) → ℕ → List Tern
row_at rows t = slice_index_or rows t []
