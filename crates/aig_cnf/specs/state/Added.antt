-- Clauses that are given to a checker, piece by piece.
use Rattle.std.specs.Prelude.{◌≡◌, ◌⊎◌, ℕ, ◌+◌, ◌≤◌, Bool, true, List, length}
use Rattle.aig_sat.specs.checker.Basis.{Basis, KeepsNumbers}
use Rattle.aig_sat.specs.checker.Clause.{Satisfies}
use Rattle.aig_cnf.specs.Numbered.{HaveNumbers}

-- an assignment that satisfies the old formula and these clauses satisfies the new one
pub record Adds (clauses old new : List (List ℕ)) : Type 0 where
  pub satisfied : (values : ℕ → Bool) → Satisfies values clauses → Satisfies values old → Satisfies values new

-- the clauses take the next numbers in their order, unless there is a conflict
pub record TakeNumbers (clauses : List (List ℕ)) (old new : Basis) : Type 0 where
  pub kept : KeepsNumbers old new
  pub numbers : (new.is_refuted ≡ true)
      ⊎ (old.next + length clauses ≤ 0x8000_0000
      → (new.next ≡ old.next + length clauses) × HaveNumbers old.next clauses new)

-- the same, where steps have hints
pub record Numbers (clauses : List (List ℕ)) (old new : Basis) : Type 0 where
  pub taken : old.is_hinted ≡ true → TakeNumbers clauses old new
