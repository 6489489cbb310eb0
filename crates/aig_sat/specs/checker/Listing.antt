-- The lists of places by literal. A list is a chain of links: each has a place and the number of the next one. It ends
-- where no link has that number. Literals that leave the same rest share a list.
-- Example: of the links `(8, 9)` and `(1, 0)`, the second one is the first of the list `1, 8`.
use Rattle.std.specs.Prelude.{◌≡◌, ℕ, zero, suc, ◌%◌, ◌<◌, Bool, true, false, ◌||◌, nat_eq, List, length}
use Rattle.std.specs.Prelude.{Option, None, Some, slice_get, slice_index}
use Rattle.aig_sat.specs.declared.checker.places.Link.{Link}
use Rattle.aig_sat.specs.checker.Knowledge.{IsIn}
use Rattle.aig_sat.specs.checker.Words.{StandsAt, literal_at, size_at}

-- the link has the place, or what comes from the next one on has it
abbrev pub link_has : Option Link → ℕ → (ℕ → Bool) → Bool
link_has None place rest_has = false
link_has (Some link) place rest_has = nat_eq link.place place || rest_has link.next

-- one of the first n links from a number on has the place
abbrev pub is_within : List Link → ℕ → ℕ → ℕ → Bool
is_within links place zero number = false
is_within links place (suc n) number = link_has (slice_get links number) place (is_within links place n)

-- the list of a literal has the place
abbrev pub Lists : List ℕ → List Link → ℕ → ℕ → Type 0
Lists heads links literal place =
    is_within links place (length links) (slice_index heads (literal % length heads)) ≡ true

-- the lists keep their places
abbrev pub KeepsLists : List ℕ → List Link → List ℕ → List Link → Type 0
KeepsLists heads links heads' links' = (l p : ℕ) → Lists heads links l p → Lists heads' links' l p

-- each clause that stands at a place before the end is in the list of each of its literals
abbrev pub ListsAll : List ℕ → List Link → List ℕ → ℕ → Type 0
ListsAll heads links words end =
    (p k : ℕ) → p < end → StandsAt words p → k < size_at words p → Lists heads links (literal_at words p k) p

-- each clause that stands and has the literal is at one of the places
abbrev pub FindsAll : List ℕ → ℕ → List ℕ → Type 0
FindsAll words literal places =
    (p k : ℕ) → StandsAt words p → k < size_at words p → literal_at words p k ≡ literal → IsIn places p
