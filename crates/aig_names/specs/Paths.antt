-- A name in scopes (IEEE 1364, value change dump: `$scope`, `$var`). Where the standard is silent, dots that
-- separate scopes are our own choice, after the names that yosys writes.
-- Example: `u1.q[0]` is `q[0]` in the scope `u1`; `a..b` is in no scope.
use Rattle.std.specs.Prelude.{ℕ, ◌-◌, ◌==◌, if◌then◌else◌, Bool, List, [], ◌∷◌, length, take, slice_index_or}
use Rattle.std.specs.List.{list_any}
use Rattle.aig_names.specs.Names.{cut_at}

-- whether one of these pieces is empty
abbrev pub has_empty : List (List ℕ) → Bool
has_empty pieces = list_any (λ piece. length piece == 0) pieces

-- a name's pieces between dots; a name with an empty piece is one piece
unfoldable pub path_of : List ℕ → List (List ℕ)
path_of name = if has_empty (cut_at 46 name) then name ∷ [] else cut_at 46 name

-- the scopes that a name is in: all pieces but the last
abbrev pub scopes_of : List ℕ → List (List ℕ)
scopes_of name = take (length (path_of name) - 1) (path_of name)

-- its own piece: the last
abbrev pub leaf_of : List ℕ → List ℕ
leaf_of name = slice_index_or (path_of name) (length (path_of name) - 1) []
