-- What propagation keeps.
use Rattle.std.specs.Prelude.{◌≡◌, ℕ, Bool, true, false, List, Result, IfOk, IsTrue}
use Rattle.aig_sat.specs.declared.checker.propagator.Propagator.{Propagator}
use Rattle.aig_sat.specs.checker.Clause.{meets}
use Rattle.aig_sat.specs.checker.Knowledge.{IsFound, IsKnown, MakesTrue}
use Rattle.aig_sat.specs.checker.Words.{MeetsAll, Shrinks}

-- the assignment meets each clause that stands and makes each known literal true
pub record Agrees (values : ℕ → Bool) (p : Propagator) : Type 0 where
  pub met : MeetsAll values p.clauses.words.items
  pub known : MakesTrue values p.known.truths.items

-- no assignment agrees
abbrev pub Contradicts : Propagator → Type 0
Contradicts p = (values : ℕ → Bool) → Agrees values p → ⊥

-- What is known from now on follows from what stood and was known, and is in the trail where it was not known.
pub record Propagates (old new : Propagator) : Type 0 where
  pub same : Shrinks old.clauses.words.items new.clauses.words.items
  pub known : (values : ℕ → Bool) → Agrees values old → MakesTrue values new.known.truths.items
  pub found : (before : List Bool) → IsFound before old.known → IsFound before new.known

-- The same, where the literals of a clause are taken to be false.
pub record Assumes (clause : List ℕ) (old new : Propagator) : Type 0 where
  pub same : Shrinks old.clauses.words.items new.clauses.words.items
  pub known : (values : ℕ → Bool) → Agrees values old → meets values clause ≡ false
      → MakesTrue values new.known.truths.items
  pub found : (before : List Bool) → IsFound before old.known → IsFound before new.known

-- an assignment that agrees meets the clause
abbrev pub Implies : Propagator → List ℕ → Type 0
Implies p clause = (values : ℕ → Bool) → Agrees values p → meets values clause ≡ true

-- no clause stands, and nothing is known, that did not and was not before
pub record Narrows (old new : Propagator) : Type 0 where
  pub same : Shrinks old.clauses.words.items new.clauses.words.items
  pub fewer : (l : ℕ) → IsKnown new.known.truths.items l → IsKnown old.known.truths.items l

-- A search for a conflict: what it finds follows. Where it answers yes, no assignment agreed before.
pub record Searches {E : Type 0} (old new : Propagator) (r : Result Bool E) : Type 0 where
  pub propagates : Propagates old new
  pub contradicts : IfOk r (λ yes. IsTrue yes → Contradicts old)

-- The same where the literals of a clause are taken to be false. Where it answers yes, the clause was implied.
pub record Refutes {E : Type 0} (clause : List ℕ) (old new : Propagator) (r : Result Bool E) : Type 0 where
  pub assumes : Assumes clause old new
  pub implied : IfOk r (λ yes. IsTrue yes → Implies old clause)

-- A test whether a clause follows, which forgets what it found. Where it answers yes, the clause was implied.
pub record Tests {E : Type 0} (clause : List ℕ) (old new : Propagator) (r : Result Bool E) : Type 0 where
  pub narrows : Narrows old new
  pub implied : IfOk r (λ yes. IsTrue yes → Implies old clause)
