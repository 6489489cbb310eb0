-- The text of a proof (DRAT). Where programs differ, this is our own choice. A text has an LF at its end here, also
-- where the file has none.
-- Example: `d 1 -2 0` and a blank delete the clause `0 3`, as the second step.
use Rattle.std.specs.Prelude.{◌≡◌, ◌≢◌, ◌⊎◌, ℕ, ◌<◌, Bool, true, false, List, [], ◌∷◌, ◌++◌, All}
use Rattle.aig_parts.specs.Literal.{variable}
use Rattle.aig_sat.specs.model.ModelText.{IsSpace, number_text}
use Rattle.aig_sat.specs.declared.proof.step.StepKind.{StepKind}
use Rattle.aig_sat.specs.declared.proof.step.StepKind.TheVariants.{Add, Delete}

-- what separates words: spaces, and lines that begin with `c`. The number is the byte before it, or an LF at the front.
pub data Gap : ℕ → List ℕ → Type 0 where
  nothing : {previous : ℕ} → Gap previous []
  space : {previous : ℕ} {rest : List ℕ} (b : ℕ) → IsSpace b → Gap b rest → Gap previous (b ∷ rest)
  comment : {rest : List ℕ} (line : List ℕ) → All (λ b. b ≢ 10) line → Gap 10 rest → Gap 10 (99 ∷ (line ++ 10 ∷ rest))

-- the last byte of these, or the one before them where there is none
abbrev pub last_byte : ℕ → List ℕ → ℕ
last_byte previous [] = previous
last_byte previous (b ∷ rest) = last_byte b rest

-- a blank or a tab
abbrev pub IsBlank : ℕ → Type 0
IsBlank b = (b ≡ 32) ⊎ (b ≡ 9)

-- what follows the 0 of a step: the rest of the line for the first step, a space for any other
abbrev pub EndsStep : Bool → List ℕ → Type 0
EndsStep true ends = (blanks : List ℕ) × All IsBlank blanks × (ends ≡ blanks ++ 10 ∷ [])
EndsStep false ends = (b : ℕ) × IsSpace b × (ends ≡ b ∷ [])

-- the literals of a clause, up to the 0 and what follows it. Variables count from 1, up to 2,147,483,647.
pub data SpellsClause (is_first : Bool) : ℕ → List ℕ → List ℕ → Type 0 where
  end : {previous : ℕ} {gap : List ℕ} (ends : List ℕ) → Gap previous gap → EndsStep is_first ends
      → SpellsClause is_first previous (gap ++ (48 ∷ ends)) []
  literal : {previous : ℕ} {gap rest clause : List ℕ} (l b : ℕ) → Gap previous gap → variable l < 2147483647 → IsSpace b
      → SpellsClause is_first b rest clause
      → SpellsClause is_first previous (gap ++ (number_text l ++ b ∷ rest)) (l ∷ clause)

-- a step: a clause, or a `d` and a clause that is deleted
pub data SpellsStep (is_first : Bool) : ℕ → List ℕ → StepKind → List ℕ → Type 0 where
  add : {previous : ℕ} {text clause : List ℕ} → SpellsClause is_first previous text clause
      → SpellsStep is_first previous text Add clause
  delete : {previous : ℕ} {gap text clause : List ℕ} (b : ℕ) → Gap previous gap → IsSpace b
      → SpellsClause is_first b text clause → SpellsStep is_first previous (gap ++ (100 ∷ (b ∷ text))) Delete clause
