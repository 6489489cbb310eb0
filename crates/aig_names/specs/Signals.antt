-- The names of a section's signals in the order of their lines: the first names of its entries, then the second ones of
-- those that have one, and so on. Each run of bits of a vector is from its last to its first. Where the standard is
-- silent, this order is our own choice.
-- Example: symbols `a b` and `c`: `a c b`.
use Rattle.std.specs.Prelude.{ℕ, zero, suc, ◌+◌, List, [], ◌∷◌, ◌++◌, map, flat_map}
use Rattle.aig_parts.specs.declared.symbols.Kind.{Kind}
use Rattle.aig_parts.specs.SymbolPlaces.{Key}
use Rattle.aig_names.specs.Names.{names_of}
use Rattle.aig_names.specs.Vectors.{turned}

-- the names of the first entries of a section, so many, the first of which is signal n
unfoldable pub entries : List (Key × List ℕ) → Kind → ℕ → ℕ → List (ℕ × List (List ℕ))
entries symbols kind n zero = []
entries symbols kind n (suc p) = entries symbols kind n p ++ (n + p, names_of symbols kind p) ∷ []

-- names at the fronts of columns, one at each
abbrev pub put_in_front : List (ℕ × List ℕ) → List (List (ℕ × List ℕ)) → List (List (ℕ × List ℕ))
put_in_front [] columns = columns
put_in_front (x ∷ xs) [] = (x ∷ []) ∷ put_in_front xs []
put_in_front (x ∷ xs) (column ∷ columns) = (x ∷ column) ∷ put_in_front xs columns

-- the names of entries by columns: all first names, then all second ones, and so on
unfoldable pub columns : List (ℕ × List (List ℕ)) → List (List (ℕ × List ℕ))
columns [] = []
columns (entry ∷ more) = put_in_front (map (λ name. (entry.0, name)) entry.1) (columns more)

-- the names of a section with so many entries, the first of which is signal n
unfoldable pub section_names : List (Key × List ℕ) → Kind → ℕ → ℕ → List (ℕ × List ℕ)
section_names symbols kind n count = flat_map turned (columns (entries symbols kind n count))
