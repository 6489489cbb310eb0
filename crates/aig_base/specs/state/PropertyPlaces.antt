-- The positions of a list of numbers, in a chain for each number that rises from position to position. The count of
-- positions ends a chain.
use Rattle.std.specs.Prelude.{◌≡◌, ℕ, ◌<◌, List, [], ◌∷◌, length, slice_index}
use Rattle.aig_base.specs.Selected.{places_from}

-- from here the chain has these positions
unfoldable pub IsChain : List ℕ → ℕ → List ℕ → Type 0
IsChain next at [] = at ≡ length next
IsChain next at (j ∷ js) =
    (at ≡ j) × (j < length next) × (j < slice_index next j) × IsChain next (slice_index next j) js

-- the chains of the numbers from position i on
pub record ArePlacesFrom (i : ℕ) (rest first next : List ℕ) : Type 0 where
  pub chains : (p : ℕ) → p < length first → IsChain next (slice_index first p) (places_from i rest p)

-- the chains of all numbers
pub record ArePlaces (numbers first next : List ℕ) : Type 0 where
  pub size : length next ≡ length numbers
  pub chains : (p : ℕ) → p < length first → IsChain next (slice_index first p) (places_from 0 numbers p)
