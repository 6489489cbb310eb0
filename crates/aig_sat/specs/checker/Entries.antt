-- The entries of clauses by their numbers, which ascend.
use Rattle.std.specs.Prelude.{◌≡◌, ◌⊎◌, ℕ, ◌<◌, ◌≤◌, List, length, map, Some, slice_get, slice_index, slice_index_or}
use Rattle.std.specs.Prelude.{slice_set}
use Rattle.aig_sat.specs.declared.checker.ids.Entry.{Entry}

abbrev pub entry : ℕ → ℕ → Entry
entry number place = record { id = number; place = place }

-- the numbers of entries
abbrev pub ids : List Entry → List ℕ
ids entries = map (λ (it : Entry). it.id) entries

abbrev pub Ascends : List ℕ → Type 0
Ascends numbers = (j k : ℕ) → j < k → k < length numbers → slice_index numbers j < slice_index numbers k

-- the number is nowhere but from one index to another one
abbrev pub IsBetween : List ℕ → ℕ → ℕ → ℕ → Type 0
IsBetween numbers number low high =
    (k : ℕ) → k < length numbers → slice_index numbers k ≡ number → (low ≤ k) × (k ≤ high)

-- the place of the number, if there is an entry
abbrev pub IsPlaceOf : List Entry → ℕ → ℕ → Type 0
IsPlaceOf entries number place =
    (k : ℕ) → (it : Entry) → slice_get entries k ≡ Some it → it.id ≡ number → place ≡ it.place

-- no entry is written but that of the number
abbrev pub Forgets : List Entry → ℕ → List Entry → Type 0
Forgets old number new =
    (new ≡ old)
    ⊎ ((k : ℕ) × (was : Entry) × (it : Entry) × (k < length old) × (was ≡ slice_index_or old k was) × (was.id ≡ number)
    × (new ≡ slice_set old k it))
