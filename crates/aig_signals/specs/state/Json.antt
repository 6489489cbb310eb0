-- How an array is written: each element comes after a comma, and the first comma becomes the bracket.
use Rattle.std.specs.Prelude.{ℕ, List, [], ◌∷◌}

-- the bracket in place of the first byte, or alone
abbrev pub opened : List ℕ → List ℕ
opened [] = 91 ∷ []
opened (byte ∷ bytes) = 91 ∷ bytes
