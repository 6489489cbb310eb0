-- The literals that are known to be true, and the trail of those that were found.
use Rattle.std.specs.Prelude.{◌≡◌, ◌≢◌, ◌⊎◌, ℕ, ◌<◌, Bool, true, false, List, [], ◌∷◌, ◌++◌, length, slice_index}
use Rattle.std.specs.Prelude.{slice_index_or, slice_set}
use Rattle.aig_parts.specs.Literal.{negation}
use Rattle.aig_sat.specs.declared.checker.known.Known.{Known}
use Rattle.aig_sat.specs.checker.Clause.{is_true}

abbrev pub IsKnown : List Bool → ℕ → Type 0
IsKnown truths l = slice_index_or truths l false ≡ true

-- the assignment makes each known literal true
abbrev pub MakesTrue : (ℕ → Bool) → List Bool → Type 0
MakesTrue values truths = (l : ℕ) → IsKnown truths l → is_true values l ≡ true

abbrev pub IsIn : List ℕ → ℕ → Type 0
IsIn list l = (k : ℕ) × (k < length list) × (slice_index list k ≡ l)

-- the literal is none of these
abbrev pub IsWithout : List ℕ → ℕ → Type 0
IsWithout literals l = (k : ℕ) → k < length literals → slice_index literals k ≢ l

-- what is known was known before, or is in the trail
abbrev pub IsFound : List Bool → Known → Type 0
IsFound before known = (l : ℕ) → IsKnown known.truths.items l → IsKnown before l ⊎ IsIn known.trail.items l

-- the literal is known from now on and in the trail, where anything changes
abbrev pub Takes : ℕ → Known → Known → Type 0
Takes literal old new =
    ((new.truths.items ≡ old.truths.items) × (new.trail.items ≡ old.trail.items))
    ⊎ ((new.truths.items ≡ slice_set old.truths.items literal true)
    × (new.trail.items ≡ old.trail.items ++ literal ∷ []))

-- all literals but this one are known to be false
abbrev pub AreFalseBeside : List Bool → List ℕ → ℕ → Type 0
AreFalseBeside truths literals other =
    (k : ℕ) → k < length literals
    → (slice_index literals k ≡ other) ⊎ IsKnown truths (negation (slice_index literals k))

-- all literals are known to be false
abbrev pub AreFalse : List Bool → List ℕ → Type 0
AreFalse truths literals = (k : ℕ) → k < length literals → IsKnown truths (negation (slice_index literals k))

-- all literals but the one at k are known to be false
abbrev pub AreFalseBut : List Bool → List ℕ → ℕ → Type 0
AreFalseBut truths literals k =
    (j : ℕ) → j < length literals → j ≢ k → IsKnown truths (negation (slice_index literals j))
