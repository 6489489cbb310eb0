-- The table of scopes as the program holds it. A row is a section: its kind, how many signals it has, the name of its
-- scope, and the type of its signals.
use Rattle.std.specs.Prelude.{ℕ, ◌+◌, List, [], ◌∷◌, ◌++◌}
use Rattle.std.specs.Borrow.{Bor}
use Rattle.aig_parts.specs.declared.symbols.Kind.{Kind}
use Rattle.aig_parts.specs.SymbolPlaces.{Key}
use Rattle.aig_names.specs.Header.{section_scope}

abbrev pub ScopeRow : Type 0
ScopeRow = Kind × ℕ × Bor (List ℕ) × Bor (List ℕ)

-- how many signals the sections have
abbrev pub rows_size : List ScopeRow → ℕ
rows_size [] = 0
rows_size (row ∷ rows) = row.1 + rows_size rows

-- the scopes of the sections, the first of which begins with signal n
abbrev pub rows_text : List (Key × List ℕ) → ℕ → List ScopeRow → List ℕ
rows_text symbols n [] = []
rows_text symbols n (row ∷ rows) =
    section_scope symbols row.0 row.2.now row.3.now n row.1 ++ rows_text symbols (n + row.1) rows
