-- The clauses that stand, as words. A clause has a first word that says that it stands and how many literals it has, two
-- other words, and its literals.
use Rattle.std.specs.Prelude.{◌≡◌, ◌⊎◌, ℕ, ◌+◌, ◌-◌, ◌%◌, ◌<◌, ◌≤◌, Bool, true, List, length, slice_index}
use Rattle.std.specs.Prelude.{slice_set}
use Rattle.aig_parts.specs.Literal.{variable}
use Rattle.aig_sat.specs.checker.Clause.{is_true}

abbrev pub StandsAt : List ℕ → ℕ → Type 0
StandsAt words p = 0x8000_0000 ≤ slice_index words p

-- how many literals the clause at p has
abbrev pub size_at : List ℕ → ℕ → ℕ
size_at words p = slice_index words p - 0x8000_0000

-- literal k of the clause at p
abbrev pub literal_at : List ℕ → ℕ → ℕ → ℕ
literal_at words p k = slice_index words (p + (3 + k))

-- the clause at p has the literal
abbrev pub HasLiteral : List ℕ → ℕ → ℕ → Type 0
HasLiteral words p l = (k : ℕ) × (k < size_at words p) × (literal_at words p k ≡ l)

-- all words of a clause are there, and none of them but the first is the first word of a clause
abbrev pub IsLaidOut : List ℕ → Type 0
IsLaidOut words =
    (p : ℕ) → StandsAt words p
    → (p + (3 + size_at words p) ≤ length words)
    × ((q : ℕ) → p < q → q < p + (3 + size_at words p) → slice_index words q < 0x8000_0000)

-- a literal of the clause at p is true under the assignment
abbrev pub HasTrue : (ℕ → Bool) → List ℕ → ℕ → Type 0
HasTrue values words p = (k : ℕ) × (k < size_at words p) × (is_true values (literal_at words p k) ≡ true)

-- the assignment meets each clause that stands
abbrev pub MeetsAll : (ℕ → Bool) → List ℕ → Type 0
MeetsAll values words = (p : ℕ) → StandsAt words p → HasTrue values words p

-- each assignment that meets the first clauses meets the second ones
abbrev pub KeepsMet : List ℕ → List ℕ → Type 0
KeepsMet old new = (values : ℕ → Bool) → MeetsAll values old → MeetsAll values new

-- no clause stands in the second words that does not in the first ones, with the same literals in any order
pub record Shrinks (old new : List ℕ) : Type 0 where
  pub heads : (p : ℕ) → StandsAt new p → slice_index new p ≡ slice_index old p
  pub kept : (p k : ℕ) → StandsAt new p → k < size_at new p → HasLiteral new p (literal_at old p k)
  pub had : (p k : ℕ) → StandsAt new p → k < size_at new p → HasLiteral old p (literal_at new p k)

-- A clause that stands has only variables that begin at its place or before, and that are below the number `named`. No
-- variable begins past the words.
pub record Begins (starts : List ℕ) (named : ℕ) (words : List ℕ) : Type 0 where
  pub before : (p k : ℕ) → StandsAt words p → k < size_at words p
      → (variable (literal_at words p k) < named) × (slice_index starts (variable (literal_at words p k)) ≤ p)
  pub within : (x : ℕ) → slice_index starts x ≤ length words

-- these are the literals of the clause that stands at p
pub record IsClauseAt (words : List ℕ) (p : ℕ) (literals : List ℕ) : Type 0 where
  pub stands : StandsAt words p
  pub size : length literals ≡ size_at words p
  pub items : (k : ℕ) → k < length literals → slice_index literals k ≡ literal_at words p k

-- none of them is the first word of a clause
abbrev pub AreLiterals : List ℕ → Type 0
AreLiterals literals = (k : ℕ) → k < length literals → slice_index literals k < 0x8000_0000

-- the variable of each is below a number
abbrev pub AreNamed : List ℕ → ℕ → Type 0
AreNamed literals named = (k : ℕ) → k < length literals → variable (slice_index literals k) < named

-- the words of a clause that does not stand yet come after the others
pub record IsPut (old literals new : List ℕ) : Type 0 where
  pub len : length new ≡ length old + (3 + length literals)
  pub before : (q : ℕ) → q < length old → slice_index new q ≡ slice_index old q
  pub small : (q : ℕ) → length old ≤ q → slice_index new q < 0x8000_0000
  pub items : (k : ℕ) → k < length literals → slice_index new (length old + (3 + k)) ≡ slice_index literals k

-- the words from a place on are a clause of so many literals that does not stand yet
pub record IsLast (words : List ℕ) (place size : ℕ) : Type 0 where
  pub len : length words ≡ place + (3 + size)
  pub small : (q : ℕ) → place ≤ q → slice_index words q < 0x8000_0000
  pub ends : (p : ℕ) → StandsAt words p → p + (3 + size_at words p) ≤ place

-- a clause with a number stands behind the words from now on
pub record IsAdded (old : List ℕ) (number : ℕ) (literals new : List ℕ) (place : ℕ) : Type 0 where
  pub place_is : place ≡ length old
  pub before : (q : ℕ) → q < length old → slice_index new q ≡ slice_index old q
  pub clause : IsClauseAt new place literals
  pub number_is : slice_index new (place + 1) ≡ number % 0x8000_0000

-- no word is written but the first one of the clause at a place, if that has the number
abbrev pub RemovesNamed : List ℕ → (place number : ℕ) → List ℕ → Type 0
RemovesNamed old place number new =
    (new ≡ old)
    ⊎ (StandsAt old place × (slice_index old (place + 1) ≡ number) × (new ≡ slice_set old place 0))
