-- The ends of texts that lie one after the other in one list of bytes.
use Rattle.std.specs.Prelude.{◌≡◌, ◌≤◌, ℕ, zero, suc, List, [], ◌∷◌, slice_index}

-- the ends rise from a place up to the size
unfoldable pub AreEnds : ℕ → ℕ → List ℕ → Type 0
AreEnds start size [] = start ≡ size
AreEnds start size (end ∷ ends) = (start ≤ end) × AreEnds end size ends

-- where the text at a place begins: where the one before it ends
abbrev pub begins : ℕ → List ℕ → ℕ → ℕ
begins start ends zero = start
begins start ends (suc i) = slice_index ends i
