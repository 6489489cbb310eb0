-- The clauses that stand with their numbers, and what a walk along hints keeps.
use Rattle.std.specs.Prelude.{◌≡◌, ◌≢◌, ◌⊎◌, ℕ, ◌+◌, ◌/◌, ◌<◌, nat_eq, nat_le, ◌&&◌, if◌then◌else◌, List, [], ◌∷◌}
use Rattle.std.specs.Prelude.{Bool, true, length, map, take, drop, slice_index}
use Rattle.aig_parts.specs.Literal.{negation}
use Rattle.aig_sat.specs.declared.checker.ids.Entry.{Entry}
use Rattle.aig_sat.specs.declared.checker.propagator.Propagator.{Propagator}
use Rattle.aig_sat.specs.checker.Hints.{IsShown, Numbered}
use Rattle.aig_sat.specs.checker.Knowledge.{IsIn, IsKnown}
use Rattle.aig_sat.specs.checker.Words.{literal_at, size_at}

-- a clause with this number stands at this place
abbrev pub is_numbered : List ℕ → ℕ → ℕ → Bool
is_numbered words number p = nat_le 0x8000_0000 (slice_index words p) && nat_eq (slice_index words (p + 1)) number

-- the clauses of entries, those that stand
abbrev pub numbered_at : List ℕ → List Entry → List Numbered
numbered_at words [] = []
numbered_at words (it ∷ rest) =
    if is_numbered words it.id it.place
    then record {
      number = it.id;
      literals = take (size_at words it.place) (drop (it.place + 3) words);
    } ∷ numbered_at words rest
    else numbered_at words rest

abbrev pub numbered : Propagator → List Numbered
numbered p = numbered_at p.clauses.words.items p.ids.entries.items

-- how many variables there are
abbrev pub variables : Propagator → ℕ
variables p = length p.known.truths.items / 2

-- all literals of the clause at p are known to be false but the one at k
abbrev pub IsKnownBut : List ℕ → List Bool → ℕ → ℕ → Type 0
IsKnownBut words truths p k =
    (j : ℕ) → j < size_at words p → j ≢ k → IsKnown truths (negation (literal_at words p j))

-- the clauses, their numbers and the variables stay, and what is known
pub record Walks (old new : Propagator) : Type 0 where
  pub clauses : new.clauses ≡ old.clauses
  pub ids : new.ids ≡ old.ids
  pub variables : length new.known.truths.items ≡ length old.known.truths.items
  pub known : (l : ℕ) → IsKnown old.known.truths.items l → IsKnown new.known.truths.items l

-- the clauses, their numbers and the variables stay
pub record KeepsClauses (old new : Propagator) : Type 0 where
  pub clauses : new.clauses ≡ old.clauses
  pub ids : new.ids ≡ old.ids
  pub variables : variables new ≡ variables old

-- these are known to be true
abbrev pub AreKnown : List Bool → List ℕ → Type 0
AreKnown truths literals = (l : ℕ) → IsIn literals l → IsKnown truths l

-- what is left of the clause at p, if that is at most its literal k: there is a conflict, or this literal is known
abbrev pub Leaves : (old new : Propagator) → ℕ → ℕ → Bool → Type 0
Leaves old new p k conflict =
    (conflict ≡ true) ⊎ ((k < size_at old.clauses.words.items p)
    × (literal_at old.clauses.words.items p k < length old.known.truths.items
    → IsKnown new.known.truths.items (literal_at old.clauses.words.items p k)))

-- the hints show the clause within the looks that a step may take
abbrev pub IsShownBy : Propagator → (clause hints : List ℕ) → Type 0
IsShownBy p clause hints =
    IsShown (numbered p) (variables p) (65536 + length p.clauses.words.items) clause hints
