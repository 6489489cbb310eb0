-- The variables that were visited, each with a mark and a place in a list.
use Rattle.std.specs.Prelude.{◌≡◌, ◌⊎◌, ℕ, ◌+◌, ◌<◌, ◌≤◌, List, [], not, length, count_by, Contains, Some, slice_get}
use Rattle.std.specs.Vec.{vec_capacity}
use Rattle.aig_base.specs.declared.level.visits.Visits.{Visits}
use Rattle.aig_base.specs.state.Descent.{IsMet}

-- the variable was visited
abbrev pub IsVisited : Visits → ℕ → Type 0
IsVisited s v = IsMet s.met.items v

-- the variable stands in the list, at position n or after it
abbrev pub IsFrom : List ℕ → ℕ → ℕ → Type 0
IsFrom list n v = (k : ℕ) × (n ≤ k) × (slice_get list k ≡ Some v)

-- the marked variables are those of the list, and there is room for the others
pub record AreVisits (s : Visits) : Type 0 where
  pub listed : (v : ℕ) → IsVisited s v → IsFrom s.list.items 0 v
  pub marked : (v : ℕ) → IsFrom s.list.items 0 v → IsVisited s v
  pub room : length s.list.items + count_by not s.met.items ≤ vec_capacity s.list

-- no variable of so many was visited, and there is room for all
pub record AreNoVisits (size : ℕ) (s : Visits) : Type 0 where
  pub unmet : (v : ℕ) → IsVisited s v → ⊥
  pub empty : s.list.items ≡ []
  pub marks : length s.met.items ≡ size
  pub room : size ≤ vec_capacity s.list

-- one more variable fits without memory
pub record FitsOneVisit (s : Visits) : Type 0 where
  pub marks : length s.met.items < vec_capacity s.met
  pub list : length s.met.items < vec_capacity s.list

-- more was visited, all of it among these variables
pub record VisitsAmong (xs : List ℕ) (s s' : Visits) : Type 0 where
  pub visits : AreVisits s → AreVisits s'
  pub size : length s'.met.items ≡ length s.met.items
  pub capacity : vec_capacity s'.list ≡ vec_capacity s.list
  pub left : length s'.list.items + count_by not s'.met.items ≡ length s.list.items + count_by not s.met.items
  pub kept : (v : ℕ) → IsVisited s v → IsVisited s' v
  pub new : (v : ℕ) → IsVisited s' v → IsVisited s v ⊎ Contains xs v
  pub stays : (k v : ℕ) → slice_get s.list.items k ≡ Some v → slice_get s'.list.items k ≡ Some v
