-- What the checker's steps keep.
use Rattle.std.specs.Prelude.{◌≡◌, ℕ, Bool, true, false, List}
use Rattle.aig_sat.specs.declared.checker.checker.Checker.{Checker}
use Rattle.aig_sat.specs.checker.Agreement.{Agrees}
use Rattle.aig_sat.specs.checker.Basis.{KeepsNumbers, basis}
use Rattle.aig_sat.specs.checker.Clause.{meets}

-- the formula is not refuted, and the assignment agrees with what stands and is known
pub record Holds (values : ℕ → Bool) (c : Checker) : Type 0 where
  pub open_still : c.refuted ≡ false
  pub agrees : Agrees values c.propagator

abbrev pub KeepsHolding : Checker → Checker → Type 0
KeepsHolding old new = (values : ℕ → Bool) → Holds values old → Holds values new

-- of an assignment that holds, this or another one holds
abbrev pub KeepsSomeHolding : Checker → Checker → Type 0
KeepsSomeHolding old new = (values : ℕ → Bool) → Holds values old → (others : ℕ → Bool) × Holds others new

-- each assignment that holds, and meets the clause, holds
abbrev pub KeepsMeeting : List ℕ → Checker → Checker → Type 0
KeepsMeeting clause old new = (values : ℕ → Bool) → Holds values old → meets values clause ≡ true → Holds values new

-- variables were added: what held still holds, each clause keeps its number, and so does the next one
pub record AddsVariables (old new : Checker) : Type 0 where
  pub holding : KeepsHolding old new
  pub numbered : KeepsNumbers (basis old) (basis new)
  pub next : new.next ≡ old.next
