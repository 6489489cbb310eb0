-- A step of a walk over variables, with a mark for each variable that was met.
use Rattle.std.specs.Prelude.{◌≡◌, ℕ, List, [], ◌∷◌, ◌++◌, Bool, true, false, slice_index_or, slice_set, if◌then◌else◌}

-- the variable is marked, and goes to the end of the pending ones unless it was marked before
pub record Meets (variable : ℕ) (met met' : List Bool) (pending pending' : List ℕ) : Type 0 where
  pub marked : met' ≡ slice_set met variable true
  pub added : pending' ≡ (if slice_index_or met variable false then pending else pending ++ variable ∷ [])
