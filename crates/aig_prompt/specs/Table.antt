-- Tables of texts, with frames as columns (our own choice). How wide the columns of cells are, and how many of them
-- stand side by side, is only tested.
-- Example: after `frame  0  1`, `rst    1  0`.
use Rattle.std.specs.Prelude.{◌≡◌, ℕ, zero, suc, ◌+◌, ◌-◌, nat_lt, min, max, if◌then◌else◌, List, [], ◌∷◌, ◌++◌, length}
use Rattle.std.specs.Prelude.{map, take, replicate, fold, sum, codes, decimal, slice_index_or}
use Rattle.std.specs.List.{flat_map, range_with_len}
use Rattle.aig_prompt.specs.declared.table.Row.{Row}

-- a name, and a text for each frame
pub record TableRow : Type 0 where
  pub name : List ℕ
  pub cells : List (List ℕ)

-- what a row of a program holds
abbrev pub row_of : Row → TableRow
row_of row = record { name = row.name.items; cells = row.cells }

-- the text of a cell; no bytes where there is none
abbrev pub cell_at : TableRow → ℕ → List ℕ
cell_at row place = slice_index_or row.cells place []

-- spaces
abbrev pub spaces : ℕ → List ℕ
spaces count = replicate count 32

-- a name in a column of a width: a longer one ends in two dots
abbrev pub name_text : ℕ → List ℕ → List ℕ
name_text width name =
    if nat_lt width (length name) then take (width - 2) name ++ codes ".." else name ++ spaces (width - length name)

-- a cell, at the right of its column, with a space before it at least
abbrev pub cell_text : ℕ → List ℕ → List ℕ
cell_text width cell = spaces (width - length cell + 1) ++ cell

-- the column of names is as wide as its widest name, and 5 at least, but at most 30
abbrev pub name_width : List TableRow → ℕ
name_width rows = min (fold (λ width row. max width (length row.name)) 5 rows) 30

-- a line: a name, and so many cells from a place on
unfoldable pub line_text : ℕ → ℕ → List ℕ → (ℕ → List ℕ) → ℕ → ℕ → List ℕ
line_text names cells name cell k n =
    name_text names name ++ (flat_map (λ place. cell_text cells (cell place)) (range_with_len k n) ++ 10 ∷ [])

-- so many columns from a place on: the line of frame numbers, of which frame t is at place 0, and a line for each row
unfoldable pub block_text : ℕ → ℕ → ℕ → List TableRow → ℕ → ℕ → List ℕ
block_text names cells t rows k n =
    line_text names cells (codes "frame") (λ place. decimal (t + place)) k n
    ++ flat_map (λ row. line_text names cells row.name (cell_at row) k n) rows

-- an empty line before all columns but the first
abbrev pub gap : ℕ → List ℕ
gap zero = []
gap (suc k) = 10 ∷ []

-- all columns from a place on, in blocks of so many columns each
unfoldable pub blocks_text : ℕ → ℕ → ℕ → List TableRow → ℕ → List ℕ → List ℕ
blocks_text names cells t rows k [] = []
blocks_text names cells t rows k (n ∷ sizes) =
    gap k ++ (block_text names cells t rows k n ++ blocks_text names cells t rows (k + n) sizes)

-- the text is that of rows, with so many frames from frame t on as columns
abbrev pub IsTable : ℕ → ℕ → List TableRow → List ℕ → Type 0
IsTable t frames rows text =
    (cells : ℕ) × (sizes : List ℕ) × (sum sizes ≡ frames) × (text ≡ blocks_text (name_width rows) cells t rows 0 sizes)
