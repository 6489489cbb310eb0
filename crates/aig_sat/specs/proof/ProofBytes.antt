-- The binary form of a proof (DRAT).
-- Example: the bytes 97, 2, 5 and 0 add the clause `0 3`.
use Rattle.std.specs.Prelude.{◌≡◌, ℕ, ◌+◌, ◌*◌, ◌<◌, List, [], ◌∷◌, ◌++◌}
use Rattle.aig_parts.specs.Literal.{variable}
use Rattle.aig_sat.specs.declared.proof.step.StepKind.{StepKind}
use Rattle.aig_sat.specs.declared.proof.step.StepKind.TheVariants.{Add, Delete}

-- a number in groups of seven bits, the lowest first, as few as serve; all bytes but the last have the eighth bit
pub data Groups : ℕ → List ℕ → Type 0 where
  last : (n : ℕ) → n < 128 → Groups n (n ∷ [])
  more : {rest : List ℕ} (low n : ℕ) → low < 128 → 0 < n → Groups n rest → Groups (low + 128 * n) ((128 + low) ∷ rest)

-- The literals of a clause and 0. A literal's number is twice its variable, and one more if it is negated; variables
-- count from 1, up to 2,147,483,647.
pub data SpellsLiterals : List ℕ → List ℕ → Type 0 where
  end : SpellsLiterals (0 ∷ []) []
  literal : {number rest clause : List ℕ} (l : ℕ) → variable l < 2147483647 → Groups (l + 2) number
      → SpellsLiterals rest clause → SpellsLiterals (number ++ rest) (l ∷ clause)

-- the byte that a step begins with: `a` or `d`
abbrev pub first_byte : StepKind → ℕ
first_byte Add = 97
first_byte Delete = 100

-- a step: that byte, and the clause
pub record SpellsBinaryStep (bytes : List ℕ) (kind : StepKind) (clause : List ℕ) : Type 0 where
  pub rest : List ℕ
  pub bytes_are : bytes ≡ first_byte kind ∷ rest
  pub spelled : SpellsLiterals rest clause
