-- What follows from a formula (propositional logic).
-- Example: from the clauses `2` and `3 4` the clause `4` follows; `2` and `3` are unsatisfiable.
use Rattle.std.specs.Prelude.{ℕ, Bool, List}
use Rattle.aig_sat.specs.checker.Clause.{Satisfies}

-- each assignment that satisfies the first formula satisfies the second
abbrev pub Follows : List (List ℕ) → List (List ℕ) → Type 0
Follows old new = (values : ℕ → Bool) → Satisfies values old → Satisfies values new

-- no assignment satisfies the formula
abbrev pub IsUnsatisfiable : List (List ℕ) → Type 0
IsUnsatisfiable clauses = (values : ℕ → Bool) → Satisfies values clauses → ⊥

-- where an assignment satisfies the first formula, some assignment satisfies the second
abbrev pub KeepsSatisfiable : List (List ℕ) → List (List ℕ) → Type 0
KeepsSatisfiable old new = (values : ℕ → Bool) → Satisfies values old → (others : ℕ → Bool) × Satisfies others new
