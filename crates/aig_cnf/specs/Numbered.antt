-- The clauses of a formula with their numbers, in a checker of steps with hints.
-- Example: of the clauses `2` and `3 4`, with numbers from 1 on, `2` has 1 and `3 4` has 2.
use Rattle.std.specs.Prelude.{◌≡◌, ◌⊎◌, ℕ, ◌+◌, ◌<◌, ◌≤◌, true, List, [], ◌∷◌, length}
use Rattle.aig_sat.specs.checker.Basis.{Basis, HasNumber}

-- the clauses stand, and have the numbers from n on in their order
abbrev pub HaveNumbers : ℕ → List (List ℕ) → Basis → Type 0
HaveNumbers n [] b = Unit {0}
HaveNumbers n (clause ∷ rest) b = HasNumber b n clause × HaveNumbers (n + 1) rest b

-- A checker of steps with hints has all variables of the formula. Its clauses are numbered from 1 on, and the next
-- number comes after them, unless there is a conflict.
pub record NumbersFormula (variables : ℕ) (clauses : List (List ℕ)) (b : Basis) : Type 0 where
  pub hinted : b.is_hinted ≡ true
  pub has_variables : variables ≤ b.variables
  pub numbers : (b.is_refuted ≡ true)
      ⊎ (length clauses < 0x8000_0000 → (b.next ≡ length clauses + 1) × HaveNumbers 1 clauses b)
