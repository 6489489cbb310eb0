-- A step that is shown by its hints (LRAT). Where the step's literals are false, the clauses that its hints name have
-- one literal left in turn, which is true from then on, until one has none left.
-- Example: of the clauses `2 4` and `2 5`, numbered 1 and 2, the hints 0 and 2 show the clause `2`: the first one
-- leaves 4, and the second one nothing.
use Rattle.std.specs.Prelude.{◌≡◌, ◌≢◌, ◌⊎◌, ℕ, ◌+◌, ◌-◌, ◌<◌, List, [], ◌∷◌, length, slice_index, map}
use Rattle.aig_parts.specs.Literal.{IsEven, negation, variable}
use Rattle.aig_sat.specs.checker.Knowledge.{IsIn}
use Rattle.aig_sat.specs.checker.Words.{AreNamed}

-- a clause that stands, and its number
pub record Numbered : Type 0 where
  pub number : ℕ
  pub literals : List ℕ

-- the clause stands and has the number
abbrev pub IsNumbered : List Numbered → ℕ → List ℕ → Type 0
IsNumbered [] number clause = ⊥
IsNumbered (it ∷ rest) number clause =
    ((it.number ≡ number) × (it.literals ≡ clause)) ⊎ IsNumbered rest number clause

-- all literals of the clause are false but the one at k
abbrev pub IsFalseBut : List ℕ → List ℕ → ℕ → Type 0
IsFalseBut truths clause k = (j : ℕ) → j < length clause → j ≢ k → IsIn truths (negation (slice_index clause j))

-- The hints give a clause without a literal that is left. Each takes a look, and one for each literal of its clause.
abbrev pub Shows : List Numbered → (variables looks : ℕ) → (truths hints : List ℕ) → Type 0
Shows clauses variables looks truths [] = ⊥
Shows clauses variables looks truths (hint ∷ hints) =
    (clause : List ℕ) × (0 < looks) × IsEven hint × IsNumbered clauses (variable hint + 1) clause
    × (IsFalseBut truths clause (length clause)
    ⊎ ((k : ℕ) × (k < length clause) × (variable (slice_index clause k) < variables) × IsFalseBut truths clause k
    × Shows clauses variables (looks - (1 + length clause)) (slice_index clause k ∷ truths) hints))

-- the literals are of so many variables, and the hints show the clause where they are false
abbrev pub IsShown : List Numbered → (variables looks : ℕ) → (clause hints : List ℕ) → Type 0
IsShown clauses variables looks clause hints =
    AreNamed clause variables × Shows clauses variables looks (map negation clause) hints
