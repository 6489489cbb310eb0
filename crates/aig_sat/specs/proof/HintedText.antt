-- The text of a proof with hints (LRAT). Each step has a number, and one that adds a clause names the clauses that it
-- follows from, in order. Where programs differ, this is our own choice.
-- Example: `5 1 0 2 -3 0` and a blank add the clause `0`, numbered 5, with the hints 2 and -3: the literals 2 and 5.
use Rattle.std.specs.Prelude.{◌≡◌, ℕ, ◌<◌, ◌≤◌, ◌%◌, false, List, [], ◌∷◌, ◌++◌, All}
use Rattle.std.specs.Fmt.{decimal}
use Rattle.aig_sat.specs.model.ModelText.{IsSpace}
use Rattle.aig_sat.specs.declared.proof.step.StepKind.{StepKind}
use Rattle.aig_sat.specs.declared.proof.step.StepKind.TheVariants.{Add, Delete}
use Rattle.aig_sat.specs.proof.ProofText.{Gap, SpellsClause, SpellsStep, last_byte}

-- A step: its number, what it does, the clause that it adds, and the hints of the clause or the numbers of the clauses
-- that it deletes. Hints and numbers are spelled as literals.
pub record HintedStep : Type 0 where
  pub number : ℕ
  pub kind : StepKind
  pub clause : List ℕ
  pub hints : List ℕ

-- none of them is negated
abbrev pub ArePositive : List ℕ → Type 0
ArePositive hints = All (λ l. l % 2 ≡ 0) hints

-- a number, and a step as one without hints has it: after a clause that is added come its hints
pub data SpellsHinted : ℕ → List ℕ → HintedStep → Type 0 where
  add : {previous : ℕ} {gap text more clause hints : List ℕ} (n b : ℕ) → Gap previous gap → 0 < n → n ≤ 2147483647
      → IsSpace b → SpellsStep false b text Add clause → SpellsClause false (last_byte b text) more hints
      → SpellsHinted previous (gap ++ (decimal n ++ b ∷ (text ++ more)))
      (record { number = n; kind = Add; clause = clause; hints = hints })
  delete : {previous : ℕ} {gap text numbers : List ℕ} (n b : ℕ) → Gap previous gap → n ≤ 2147483647 → IsSpace b
      → SpellsStep false b text Delete numbers → ArePositive numbers
      → SpellsHinted previous (gap ++ (decimal n ++ b ∷ text))
      (record { number = n; kind = Delete; clause = []; hints = numbers })
