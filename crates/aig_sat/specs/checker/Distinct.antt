-- The literals of a clause as a set.
use Rattle.std.specs.Prelude.{◌≡◌, ℕ, ◌<◌, true, nat_eq, List, length, slice_index}
use Rattle.std.specs.List.{list_any}

abbrev pub Has : List ℕ → ℕ → Type 0
Has list l = list_any (nat_eq l) list ≡ true

abbrev pub HasAll : List ℕ → List ℕ → Type 0
HasAll list clause = (k : ℕ) → k < length clause → Has list (slice_index clause k)

-- the same set of literals
pub record IsSameSet (list clause : List ℕ) : Type 0 where
  pub all : HasAll list clause
  pub only : HasAll clause list
