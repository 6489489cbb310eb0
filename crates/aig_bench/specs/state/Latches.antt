-- Which latches read a variable, and lists of latches. A latch's number is one more than its position (our own choice).
-- Example: a latch whose next literal is 5 is listed where the cell of variable 2 changed.
use Rattle.std.specs.Prelude.{◌≡◌, ◌≢◌, ◌⊎◌, ◌↔◌, ℕ, suc, ◌+◌, ◌<◌, ◌≤◌, Bool, List, [], ◌∷◌, length, replicate, Some}
use Rattle.std.specs.Prelude.{slice_get}
use Rattle.aig_parts.specs.declared.latch.Latch.{Latch}
use Rattle.aig_parts.specs.declared.raw.Raw.{Raw}
use Rattle.aig_parts.specs.declared.ternary.Tern.{Tern}
use Rattle.aig_parts.specs.Literal.{variable}
use Rattle.aig_base.specs.state.Marks.{IsMarked}
use Rattle.aig_parts.specs.state.Bits.{HasBit}
use Rattle.aig_bench.specs.declared.propagate.latch_list.LatchList.{LatchList}
use Rattle.aig_bench.specs.declared.propagate.latch_readers.LatchReaders.{LatchReaders}
use Rattle.aig_bench.specs.state.Buckets.{AreChained}

-- the latch of this number takes its next value from the variable
abbrev pub TakesNextFrom : Raw → ℕ → ℕ → Type 0
TakesNextFrom raw i v = (p : ℕ) × (x : Latch) × (i ≡ suc p) × (slice_get raw.latches p ≡ Some x) × (variable x.next ≡ v)

-- of the latches up to this number, the last one that follows the variable; 0 where none does
pub record IsLast (raw : Raw) (v n i : ℕ) : Type 0 where
  pub inside : i ≤ n
  pub follows : i ≢ 0 → TakesNextFrom raw i v
  pub none_over : (j : ℕ) → i < j → j ≤ n → TakesNextFrom raw j v → ⊥

-- a variable that has a last latch has its bit
abbrev pub HaveBits : List ℕ → List ℕ → Type 0
HaveBits last words = (v i : ℕ) → slice_get last v ≡ Some i → i ≢ 0 → HasBit words v

-- for each variable the last latch that follows it, and for each latch the one before it that follows the same variable
pub record AreLatchReaders (raw : Raw) (readers : LatchReaders) : Type 0 where
  pub variables : length readers.last.items ≡ raw.max_var + 1
  pub latches : length readers.before.items ≡ length raw.latches + 1
  pub last : (v i : ℕ) → slice_get readers.last.items v ≡ Some i → IsLast raw v (length raw.latches) i
  pub before : (p i : ℕ) (x : Latch) → slice_get raw.latches p ≡ Some x → slice_get readers.before.items (suc p)
      ≡ Some i
      → IsLast raw (variable x.next) p i
  pub read : HaveBits readers.last.items readers.read.words.items

-- a list of some of n latches: what is marked stands in one chain
pub record IsLatchList (n : ℕ) (list : LatchList) : Type 0 where
  pub size : length list.marks.items ≡ n + 1
  pub chained : AreChained (replicate (n + 1) 0) (list.first ∷ []) list.next.items list.marks.items

-- the latch of this number is in the list
abbrev pub IsInLatchList : LatchList → ℕ → Type 0
IsInLatchList list i = IsMarked list.marks.items i

-- these are in the list too
abbrev pub Lists : (ℕ → Type 0) → LatchList → LatchList → Type 0
Lists P old new = (i : ℕ) → IsInLatchList new i ↔ (IsInLatchList old i ⊎ P i)

-- what was in the list is in it, and so is each latch that follows a variable whose cell changed
pub record QueuesNextLatches (raw : Raw) (row : List Tern) (marks : List Bool) (row' : List Tern)
    (marks' : List Bool) : Type 0 where
  pub kept : (i : ℕ) → IsMarked marks i → IsMarked marks' i
  pub changed : (i v : ℕ) → TakesNextFrom raw i v → slice_get row' v ≢ slice_get row v → IsMarked marks' i

-- the literal is the one of the latch at this position
abbrev pub IsLatchAt : Raw → ℕ → ℕ → Type 0
IsLatchAt raw l p = (x : Latch) × (slice_get raw.latches p ≡ Some x) × (x.lit ≡ l)
