-- Gates that wait, in a chain for each level (our own choice).
-- Example: an empty queue: the row is current, and what was evaluated is what was touched.
use Rattle.std.specs.Prelude.{◌≡◌, ◌≢◌, ◌⊎◌, ◌↔◌, ℕ, ◌+◌, ◌*◌, ◌<◌, ◌≤◌, Bool, IsTrue, List, [], ◌∷◌, length, slice_get}
use Rattle.std.specs.Prelude.{slice_index, Contains, Option, Some, None}
use Rattle.std.specs.Vec.{vec_capacity}
use Rattle.aig_base.specs.state.Marks.{IsMarked}
use Rattle.aig_parts.specs.Formed.{limit}
use Rattle.aig_parts.specs.state.Bits.{HasBit}
use Rattle.aig_bench.specs.state.Waiting.{WaitingVariables}
use Rattle.aig_bench.specs.declared.propagate.buckets.Buckets.{Buckets}

-- from at on, by the list that has the next number of each: these numbers, each once, and then 0
abbrev pub IsBucketChain : List ℕ → ℕ → List ℕ → Type 0
IsBucketChain next at [] = at ≡ 0
IsBucketChain next at (x ∷ xs) =
    (at ≡ x) × (0 < x) × (x < length next) × (Contains xs x → ⊥) × IsBucketChain next (slice_index next x) xs

-- the marked variables of a level stand in a chain
pub record HasChain (levels head next : List ℕ) (marks : List Bool) (level : ℕ) : Type 0 where
  pub chain : List ℕ
  pub leads : IsBucketChain next (slice_index head level) chain
  pub each : (v : ℕ) → Contains chain v ↔ (IsMarked marks v × (slice_get levels v ≡ Some level))

pub record AreChained (levels head next : List ℕ) (marks : List Bool) : Type 0 where
  pub marks_size : length marks ≡ length levels
  pub next_size : length next ≡ length levels
  pub chains : (l : ℕ) → l < length head → HasChain levels head next marks l
  pub placed : (v : ℕ) → IsMarked marks v → (l : ℕ) × (slice_get levels v ≡ Some l) × (l < length head)

-- a level is in the set where its chain has a variable
abbrev pub IsOccupied : List ℕ → List ℕ → Type 0
IsOccupied head occupied = (l : ℕ) → HasBit occupied l ↔ (slice_index head l ≢ 0)

-- chains by level, with a copy of the levels, and the set of levels of which a variable waits
pub record AreQueues (levels head : List ℕ) (marks : WaitingVariables) (words : List ℕ) : Type 0 where
  pub chained : AreChained levels head marks.next marks.items
  pub levels_are : marks.levels ≡ levels
  pub sizes : length marks.next ≡ length head
  pub few : length head ≤ limit + 1
  pub room : length head ≤ 64 * length words
  pub occupied : IsOccupied head words

abbrev pub AreBuckets : List ℕ → Buckets → Type 0
AreBuckets levels b = AreQueues levels b.head.items b.marks b.occupied

-- one more variable, and a chain for one more level, fit without memory
pub record FitsOneVariable (b : Buckets) : Type 0 where
  pub head : length b.head.items < vec_capacity b.head
  pub marks : IsTrue b.marks.room
  pub few : length b.head.items ≤ limit
  pub occupied : length b.head.items < 64 * length b.occupied

-- the variable waits
abbrev pub IsQueued : Buckets → ℕ → Type 0
IsQueued b v = IsMarked b.marks.items v

-- the variable can wait: it has a place, and its level a chain
pub record CanBeQueued (levels : List ℕ) (heads v : ℕ) : Type 0 where
  pub positive : 0 < v
  pub inside : v < length levels
  pub level : (l : ℕ) → slice_get levels v ≡ Some l → l < heads

-- no variable of these levels waits: from this one on, and below that
abbrev pub AreLevelsEmpty : List ℕ → Buckets → ℕ → ℕ → Type 0
AreLevelsEmpty levels b from end = (u l : ℕ) → IsQueued b u → slice_get levels u ≡ Some l → from ≤ l → l < end → ⊥

-- the lowest level from this one on of which a variable waits
abbrev pub IsLowest : List ℕ → Buckets → ℕ → Option ℕ → Type 0
IsLowest levels b from (Some l) = (from ≤ l) × AreLevelsEmpty levels b from l
IsLowest levels b from None = AreLevelsEmpty levels b from (length b.head.items)

-- the first variable of the level's chain; 0 where none of the level waits
pub record IsFirst (levels head : List ℕ) (marks : List Bool) (level first : ℕ) : Type 0 where
  pub is : slice_index head level ≡ first
  pub none : first ≡ 0 → (u : ℕ) → IsMarked marks u → slice_get levels u ≢ Some level

-- what waits afterwards waited before, or is one of these; there are as many levels, the levels of none of these begin
-- with the same variable, and variables have the same levels and sides
pub record LinksIn (P : ℕ → Type 0) (head : List ℕ) (old : WaitingVariables) (head' : List ℕ)
    (new : WaitingVariables) : Type 0 where
  pub heads : length head' ≡ length head
  pub kept : (l : ℕ) → ((u : ℕ) → P u → slice_get old.levels u ≢ Some l) → slice_index head' l ≡ slice_index head l
  pub levels : new.levels ≡ old.levels
  pub sides : new.sides ≡ old.sides
  pub queued : (u : ℕ) → IsMarked new.items u ↔ (IsMarked old.items u ⊎ P u)

abbrev pub Links : (ℕ → Type 0) → Buckets → Buckets → Type 0
Links P old new = LinksIn P old.head.items old.marks new.head.items new.marks

-- all of them but the levels of variables
abbrev pub without_levels : Buckets → Buckets
without_levels b = record b { marks = record b.marks { levels = [] } }

-- the variable of the level waited and waits no more, and the others wait as before
pub record TakesVariable (levels : List ℕ) (level : ℕ) (old new : Buckets) (v : ℕ) : Type 0 where
  pub buckets : AreBuckets levels new
  pub heads : length new.head.items ≡ length old.head.items
  pub sides : new.marks.sides ≡ old.marks.sides
  pub was_queued : IsQueued old v
  pub of_level : slice_get levels v ≡ Some level
  pub queued : (u : ℕ) → IsQueued new u ↔ (IsQueued old u × (u ≢ v))
