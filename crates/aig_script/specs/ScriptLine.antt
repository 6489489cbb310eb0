-- For proofs: what is kept of a line of a script while it is read.
-- Example: of `+ 10` the row `10` is kept.
use Rattle.std.specs.Prelude.{◌≡◌, ℕ, Bool, true, false, List, ◌∷◌, take}
use Rattle.aig_sim.specs.RowParser.{RowParser, KeepsLine}

-- the first bytes, whether the line begins as one that appends a frame, and then what follows that
pub record ScriptLine : Type 0 where
  pub bytes : List ℕ
  pub is_row : Bool
  pub row : RowParser

-- the line begins with `+ `
abbrev pub BeginsRow : List ℕ → Type 0
BeginsRow line = (rest : List ℕ) × (line ≡ 43 ∷ 32 ∷ rest)

-- no command but those that append a frame has 35 bytes
abbrev pub first_bytes : List ℕ → List ℕ
first_bytes line = take 35 line

abbrev pub KeepsBy : List ℕ → ScriptLine → Bool → Type 0
KeepsBy line kept false = (kept.bytes ≡ first_bytes line) × (BeginsRow line → ⊥)
KeepsBy line kept true =
    (rest : List ℕ) × (line ≡ 43 ∷ 32 ∷ rest) × KeepsLine kept.row.width rest kept.row.shape kept.row.values

-- this is what is kept of the line
pub record KeepsScriptLine (line : List ℕ) (kept : ScriptLine) : Type 0 where
  pub keeps : KeepsBy line kept kept.is_row
