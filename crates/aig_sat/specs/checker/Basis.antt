-- What a contract sees of a refutation.
-- Example: without clauses over 3 variables: no clauses, none with a number, 3 variables and 1 word.
use Rattle.std.specs.Prelude.{◌≡◌, ◌⊎◌, ℕ, ◌+◌, ◌<◌, ◌≤◌, Bool, true, false, List, [], length}
use Rattle.aig_sat.specs.declared.checker.checker.Checker.{Checker}
use Rattle.aig_sat.specs.checker.Distinct.{IsSameSet}
use Rattle.aig_sat.specs.checker.Hints.{IsNumbered, IsShown, Numbered}
use Rattle.aig_sat.specs.checker.Numbers.{numbered, variables}
use Rattle.aig_sat.specs.checker.Standing.{standing}

-- The clauses that stand, and each literal that was found to be true as a clause of its own. Whether there was a
-- conflict, and whether clauses have numbers. Those that have one, and the next number. How many variables there are,
-- and how many words of clauses.
pub record Basis : Type 0 where
  pub clauses : List (List ℕ)
  pub is_refuted : Bool
  pub is_hinted : Bool
  pub numbered : List Numbered
  pub next : ℕ
  pub variables : ℕ
  pub words : ℕ

abbrev pub basis : Checker → Basis
basis c = record {
  clauses = standing c.refuted c.propagator;
  is_refuted = c.refuted;
  is_hinted = c.is_hinted;
  numbered = numbered c.propagator;
  next = c.next;
  variables = variables c.propagator;
  words = length c.propagator.clauses.words.items;
}

-- the hints show the clause, with as many looks as there are words, and 65,536 more
abbrev pub IsShownByHints : Basis → (clause hints : List ℕ) → Type 0
IsShownByHints b clause hints = IsShown b.numbered b.variables (65536 + b.words) clause hints

-- a clause of these literals stands and has the number
abbrev pub HasNumber : Basis → ℕ → List ℕ → Type 0
HasNumber b number clause = (literals : List ℕ) × IsSameSet literals clause × IsNumbered b.numbered number literals

-- clauses have numbers as before, no variable and no conflict is lost, and each clause keeps its number, except some
pub record KeepsOthers (other : ℕ → Type 0) (old new : Basis) : Type 0 where
  pub hinted : new.is_hinted ≡ old.is_hinted
  pub variables : old.variables ≤ new.variables
  pub refuted : old.is_refuted ≡ true → new.is_refuted ≡ true
  pub others : (number : ℕ) → (clause : List ℕ) → (other number → ⊥) → IsNumbered old.numbered number clause
      → IsNumbered new.numbered number clause

-- each one keeps its own
abbrev pub KeepsNumbers : Basis → Basis → Type 0
KeepsNumbers = KeepsOthers (λ _. ⊥)

-- That, and a clause of exactly these literals has the next number, and the one after it comes next, unless there is a
-- conflict. The empty clause is one.
pub record TakesNumber (clause : List ℕ) (old new : Basis) : Type 0 where
  pub kept : KeepsNumbers old new
  pub added : (new.is_refuted ≡ true) ⊎ (old.next < 0x8000_0000 → HasNumber new old.next clause)
  pub next : (new.is_refuted ≡ true) ⊎ (old.next < 0x8000_0000 → new.next ≡ old.next + 1)
  pub empty : clause ≡ [] → new.is_refuted ≡ true

-- after a step: its clause has the next number if it was taken, else the number is left for another one
abbrev pub NumbersStep : List ℕ → Basis → Basis → Bool → Type 0
NumbersStep clause old new true = TakesNumber clause old new
NumbersStep clause old new false = KeepsNumbers old new × (new.next ≡ old.next)
