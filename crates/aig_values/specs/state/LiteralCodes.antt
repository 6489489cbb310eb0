-- A row of cells by literal (our own choice).
-- Example: the cells 0, x by literal are 0, 1, x, x.
use Rattle.std.specs.Prelude.{◌≡◌, ℕ, ◌+◌, ◌%◌, ◌<◌, List, [], ◌∷◌, nat_eq, if◌then◌else◌, slice_index_or}
use Rattle.aig_parts.specs.declared.ternary.Tern.{Tern}
use Rattle.aig_parts.specs.declared.ternary.Tern.TheVariants.{X}
use Rattle.aig_parts.specs.Ternary.{kleene_not}

-- the values of all literals of a row: of each variable its own and that of its negation
unfoldable pub by_literal : List Tern → List Tern
by_literal [] = []
by_literal (x ∷ row) = x ∷ kleene_not x ∷ by_literal row

-- the value of a variable's literal
abbrev pub signed_value : Tern → ℕ → Tern
signed_value x l = if nat_eq (l % 2) 0 then x else kleene_not x

-- so many codes from a place on have these values, and those before them are as they were
pub record WritesCodes (from size : ℕ) (value : ℕ → Tern) (old new : List Tern) : Type 0 where
  pub there : (k : ℕ) → k < size → slice_index_or new (from + k) X ≡ value k
  pub before : (k : ℕ) → k < from → slice_index_or new k X ≡ slice_index_or old k X
