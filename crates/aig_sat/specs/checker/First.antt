-- A clause that is added on its first literal. `lie` is the negation of that literal.
use Rattle.std.specs.Prelude.{◌≡◌, ◌≢◌, ◌⊎◌, ℕ, ◌<◌, Bool, true, false, List, length, slice_index}
use Rattle.std.specs.Prelude.{Result, IfOk, IsTrue}
use Rattle.aig_sat.specs.declared.checker.checker.Checker.{Checker}
use Rattle.aig_sat.specs.declared.checker.propagator.Propagator.{Propagator}
use Rattle.aig_sat.specs.checker.Agreement.{Agrees, Narrows}
use Rattle.aig_sat.specs.checker.Clause.{is_true, meets}
use Rattle.aig_sat.specs.checker.Words.{StandsAt, literal_at, size_at}

-- another one of these is true
abbrev pub MeetsOther : (ℕ → Bool) → List ℕ → ℕ → Type 0
MeetsOther values literals lie =
    (k : ℕ) × (k < length literals) × (slice_index literals k ≢ lie) × (is_true values (slice_index literals k) ≡ true)

-- the clause at p does not have the literal, or another one of its literals is true
abbrev pub Settles : (ℕ → Bool) → List ℕ → ℕ → ℕ → Type 0
Settles values words p lie =
    ((k : ℕ) → k < size_at words p → literal_at words p k ≢ lie)
    ⊎ ((k : ℕ) × (k < size_at words p) × (literal_at words p k ≢ lie) × (is_true values (literal_at words p k) ≡ true))

-- each assignment that agreed and does not meet the clause settles the clause that stands at p now
abbrev pub IsSettled : (old new : Propagator) → List ℕ → ℕ → ℕ → Type 0
IsSettled old new clause lie p =
    (values : ℕ → Bool) → Agrees values old → meets values clause ≡ false → StandsAt new.clauses.words.items p
    → Settles values new.clauses.words.items p lie

-- the same of each clause that stands now
abbrev pub AreSettled : (old new : Propagator) → List ℕ → ℕ → Type 0
AreSettled old new clause lie = (p : ℕ) → IsSettled old new clause lie p

-- of an assignment that agreed, this or another one agrees now, and meets the clause
abbrev pub MayStand : (old new : Propagator) → List ℕ → Type 0
MayStand old new clause =
    (values : ℕ → Bool) → Agrees values old → (others : ℕ → Bool) × (Agrees others new × (meets others clause ≡ true))

-- A try whether a clause may stand adds no clause and nothing known, and finds no conflict. Where it answers yes, `P`
-- holds of the propagators before and after it.
pub record Tries {E : Type 0} (old new : Checker) (r : Result Bool E) (P : Propagator → Propagator → Type 0) : Type 0 where
  pub same : new.refuted ≡ old.refuted
  pub narrows : Narrows old.propagator new.propagator
  pub holds : IfOk r (λ yes. IsTrue yes → P old.propagator new.propagator)
