-- Gates that wait, each with what is left of the greatest number over its level, so that the greatest comes first.
use Rattle.std.specs.Prelude.{◌≡◌, ◌≢◌, ℕ, zero, suc, ◌-◌, ◌^◌, ◌<◌, ◌≤◌, List, [], ◌∷◌, ◌++◌, length, map, Contains}
use Rattle.std.specs.Prelude.{slice_index, count_by, nat_eq, Option, Some, None}

pub record Queued : Type 0 where
  pub entries : List (ℕ × ℕ)
  pub capacity : ℕ

abbrev pub entry : ℕ → ℕ → ℕ × ℕ
entry level v = (2 ^ 32 - 1 - level, v)

-- how often a variable waits
abbrev pub copies : Queued → ℕ → ℕ
copies queue v = count_by (λ e. nat_eq v e.1) queue.entries

-- the variable waits
abbrev pub IsQueued : Queued → ℕ → Type 0
IsQueued queue v = 1 ≤ copies queue v

-- nothing waits, and there is room for so many
pub record IsEmptyQueue (size : ℕ) (queue : Queued) : Type 0 where
  pub empty : queue.entries ≡ []
  pub room : size ≤ queue.capacity

-- from this number on, by the list that has the next number of each: these numbers, each once, and then 0
abbrev pub IsChain : List ℕ → ℕ → List ℕ → Type 0
IsChain next at [] = at ≡ 0
IsChain next at (x ∷ xs) =
    (at ≡ x) × (0 < x) × (x < length next) × (Contains xs x → ⊥) × IsChain next (slice_index next x) xs

-- those numbers, so many at most
abbrev pub chain : ℕ → List ℕ → ℕ → List ℕ
chain zero next at = []
chain (suc n) next zero = []
chain (suc n) next (suc v) = suc v ∷ chain n next (slice_index next (suc v))

-- the chain of a level, by the list that has the first number of each level
abbrev pub chain_of : List ℕ → List ℕ → ℕ → List ℕ
chain_of head next level = chain (length next) next (slice_index head level)

-- the entries of all levels below this one
abbrev pub entries_below : (ℕ → List ℕ) → ℕ → List (ℕ × ℕ)
entries_below chains zero = []
entries_below chains (suc level) = map (entry level) (chains level) ++ entries_below chains level

abbrev pub chained_entries : List ℕ → List ℕ → List (ℕ × ℕ)
chained_entries head next = entries_below (chain_of head next) (length head)

-- no level below this one has a chain
abbrev pub IsEmptyBelow : List ℕ → ℕ → Type 0
IsEmptyBelow head end = (level : ℕ) → level < end → slice_index head level ≡ 0

-- no level has a chain
abbrev pub IsEmpty : List ℕ → Type 0
IsEmpty head = (level : ℕ) → slice_index head level ≡ 0

-- the first level that has a chain
abbrev pub IsFirstLevel : List ℕ → Option ℕ → Type 0
IsFirstLevel head (Some level) = (level < length head) × (slice_index head level ≢ 0) × IsEmptyBelow head level
IsFirstLevel head None = IsEmpty head

-- a chain for each level, none below the first, and so many numbers in all
pub record AreLevelChains (head next : List ℕ) (first waiting : ℕ) : Type 0 where
  pub chains : (level : ℕ) → IsChain next (slice_index head level) (chain_of head next level)
  pub none : IsEmptyBelow head first
  pub count : waiting ≡ length (chained_entries head next)
  pub sizes : length next ≤ length head
