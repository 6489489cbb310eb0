-- Texts that lie one after the other in one list of bytes (our own choice).
-- Example: `abc` with the ends 1 and 3 are the texts `a` and `bc`.
use Rattle.std.specs.Prelude.{ℕ, List, [], ◌∷◌, slice_range}

-- the texts from a place on, each up to its end
unfoldable pub texts_from : ℕ → List ℕ → List ℕ → List (List ℕ)
texts_from start bytes [] = []
texts_from start bytes (end ∷ ends) = slice_range bytes start end ∷ texts_from end bytes ends
