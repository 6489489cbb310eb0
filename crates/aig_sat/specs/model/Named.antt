-- The values that literals name (our own choice).
-- Example: the literals 0 and 3 name 1 and 0, and x for variable 2.
use Rattle.std.specs.Prelude.{◌≡◌, ℕ, ◌+◌, ◌*◌, ◌<◌, List, length, Contains, slice_index_or}
use Rattle.aig_parts.specs.declared.ternary.Tern.{Tern}
use Rattle.aig_parts.specs.declared.ternary.Tern.TheVariants.{Zero, One, X}

-- the value of a variable: 1 where its literal is named, 0 where the negation is, x where neither is
abbrev pub NamesValue : List ℕ → ℕ → Tern → Type 0
NamesValue literals v One = Contains literals (2 * v) × (Contains literals (2 * v + 1) → ⊥)
NamesValue literals v Zero = Contains literals (2 * v + 1) × (Contains literals (2 * v) → ⊥)
NamesValue literals v X = (Contains literals (2 * v) → ⊥) × (Contains literals (2 * v + 1) → ⊥)

-- the values of so many variables are those that the literals name; so none is named with both signs
pub record AreNamed (literals : List ℕ) (variables : ℕ) (values : List Tern) : Type 0 where
  pub count : length values ≡ variables
  pub each : (v : ℕ) → v < variables → NamesValue literals v (slice_index_or values v X)
