-- The lines of a script: the pieces that LF ends, and a last piece with bytes and no LF (our own choice).
-- Example: `t/v` is the whole line `t` and the last piece `v`.
use Rattle.std.specs.Prelude.{◌≡◌, ◌≢◌, ℕ, List, [], ◌∷◌, ◌++◌, map, All, ◌==◌, if◌then◌else◌}
use Rattle.std.specs.List.{flat_map}

-- a line, without the LF that ends it, or the bytes after the last LF
pub data Line : Type 0 where
  whole : List ℕ → Line
  unfinished : List ℕ → Line

-- with the first bytes of a line, the lines that an LF ends in the bytes that follow
abbrev pub lines_from : List ℕ → List ℕ → List (List ℕ)
lines_from line [] = []
lines_from line (b ∷ bytes) = if b == 10 then line ∷ lines_from [] bytes else lines_from (line ++ b ∷ []) bytes

-- what follows the last LF
abbrev pub rest_from : List ℕ → List ℕ → List ℕ
rest_from line [] = line
rest_from line (b ∷ bytes) = if b == 10 then rest_from [] bytes else rest_from (line ++ b ∷ []) bytes

abbrev pub last_piece : List ℕ → List Line
last_piece [] = []
last_piece (b ∷ bytes) = unfinished (b ∷ bytes) ∷ []

-- the lines that an LF ends
abbrev pub whole_lines : List ℕ → List Line
whole_lines script = map whole (lines_from [] script)

-- all lines
abbrev pub lines_of : List ℕ → List Line
lines_of script = whole_lines script ++ last_piece (rest_from [] script)

-- ---- what the lines are, whichever way they are found

abbrev pub with_end : List ℕ → List ℕ
with_end line = line ++ 10 ∷ []

-- the lines, each with the LF that ends it
abbrev pub ended : List (List ℕ) → List ℕ
ended lines = flat_map with_end lines

-- no LF stands in the bytes
abbrev pub IsPiece : List ℕ → Type 0
IsPiece bytes = All (λ b. b ≢ 10) bytes

-- the script is these pieces, each with the LF that ends it, and what follows the last LF
pub record IsSplit (script : List ℕ) (lines : List (List ℕ)) (rest : List ℕ) : Type 0 where
  pub lines_are : All IsPiece lines
  pub rest_is : IsPiece rest
  pub script_is : script ≡ ended lines ++ rest
