-- How far the places of a list of lists have been tried, whatever is tried at them.
use Rattle.std.specs.Prelude.{◌≡◌, ◌⊎◌, ℕ, suc, ◌<◌, ◌≤◌, List, [], ◌∷◌, length, map, drop, Some, slice_get}
use Rattle.aig_parts.specs.declared.ternary.Tern.{Tern}
use Rattle.aig_parts.specs.declared.ternary.Tern.TheVariants.{X}
use Rattle.aig_values.specs.InputRows.{row_at, with_cell}
use Rattle.aig_reduce.specs.declared.place.Cleared.{Cleared}
use Rattle.aig_reduce.specs.Reduction.{with_x_between, IsKept}

-- position q of list u is before position p of list t
abbrev pub IsBefore : ℕ → ℕ → ℕ → ℕ → Type 0
IsBefore u q t p = (u < t) ⊎ ((u ≡ t) × (q < p))

-- position q of list u is position p of list t, or after it
abbrev pub IsUpTo : ℕ → ℕ → ℕ → ℕ → Type 0
IsUpTo t p u q = (t < u) ⊎ ((t ≡ u) × (p ≤ q))

-- The places before position p of list t have been tried, and those from it on have the given values. `C` says which
-- values are confirmed.
pub record AreTried (C : List (List Tern) → Type 0) (given now : List (List Tern)) (t p : ℕ) : Type 0 where
  pub shape : map length now ≡ map length given
  pub later : drop (suc t) now ≡ drop (suc t) given
  pub here : drop p (row_at now t) ≡ drop p (row_at given t)
  pub confirmed : C now
  pub kept : (u q : ℕ) (a b : Tern) → IsBefore u q t p → slice_get (row_at given u) q ≡ Some a
      → slice_get (row_at now u) q ≡ Some b → IsKept (C (with_x_between now given u q)) a b

-- x was tried at a place: it stays where the values are confirmed with it
abbrev pub Tries : (List (List Tern) → Type 0) → List (List Tern) → List (List Tern) → ℕ → ℕ → Type 0
Tries C old new t p =
    (C (with_cell old t p X) × (new ≡ with_cell old t p X)) ⊎ ((C (with_cell old t p X) → ⊥) × (new ≡ old))

-- position p of list t is a place of the values
abbrev pub IsPlace : List (List Tern) → ℕ → ℕ → Type 0
IsPlace values t p = (t < length values) × (p < length (row_at values t))

-- the values that are now there become the old ones where those that were replaced are put back, the last one first
unfoldable pub Undoes : List Cleared → List (List Tern) → List (List Tern) → Type 0
Undoes [] now old = now ≡ old
Undoes (e ∷ es) now old =
    (mid : List (List Tern)) × Undoes es now mid × IsPlace mid e.place.list e.place.position
    × (old ≡ with_cell mid e.place.list e.place.position e.value)
