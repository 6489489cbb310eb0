-- Lists of gates as the code keeps them: short ones in place, and the far ones in a second table.
use Rattle.std.specs.Prelude.{◌≡◌, ◌≢◌, ℕ, ◌*◌, ◌<◌, ◌≤◌, max, List, [], ◌∷◌, length, take, replicate, cond, nat_eq}
use Rattle.std.specs.Prelude.{Some, slice_get, slice_index_or, slice_set}
use Rattle.smallvec.specs.SmallVec.{SmallVec}
use Rattle.aig_base.specs.declared.readers.slot_table.Slot.{Slot}
use Rattle.aig_base.specs.Readers.{GateList}
use Rattle.aig_base.specs.state.ReaderSlots.{capacity_at, items_at, no_list}

-- the lists of all variables, and for how many variables there is memory
pub record RoomyLists : Type 0 where
  pub slots : List GateList
  pub fitting : ℕ

-- the slots of all variables, and for how many variables there is memory
pub record Slots : Type 0 where
  pub slots : List Slot
  pub fitting : ℕ

-- the slots with these counts and gates
abbrev pub slots_of : List ℕ → List (List ℕ) → List Slot
slots_of [] gates = []
slots_of (c ∷ counts) [] = []
slots_of (c ∷ counts) (g ∷ gates) = record { count = c; gates = g } ∷ slots_of counts gates

-- the slot of a variable that has no gates
abbrev pub no_gates : Slot
no_gates = record { count = 0; gates = replicate 4 0 }

-- a far list
abbrev pub far_list : SmallVec ℕ → GateList
far_list v = record { items = v.items; capacity = v.capacity }

-- where the list of a slot is among the far lists
abbrev pub position : Slot → ℕ
position s = slice_index_or s.gates 0 0

-- the list in place: so many of the four
abbrev pub near_list : Slot → GateList
near_list s = record { items = take s.count s.gates; capacity = 4 }

-- the list of a slot; a count of five says that it is far
abbrev pub slot_list : List GateList → Slot → GateList
slot_list far s = cond (nat_eq s.count 5) (slice_index_or far (position s) no_list) (near_list s)

-- the slot is at v, and its list is far
pub record IsFar (slots : List Slot) (v : ℕ) (s : Slot) : Type 0 where
  pub at : slice_get slots v ≡ Some s
  pub count : s.count ≡ 5

-- each far list has a slot of its own, and room for four gates at least
pub record AreSlots (far : List GateList) (slots : List Slot) : Type 0 where
  pub counts : (v : ℕ) (s : Slot) → slice_get slots v ≡ Some s → s.count ≤ 5
  pub within : (v : ℕ) (s : Slot) → IsFar slots v s → position s < length far
  pub apart : (v x : ℕ) (s t : Slot) → v ≢ x → IsFar slots v s → IsFar slots x t → position s ≢ position t
  pub roomy : (p : ℕ) (l : GateList) → slice_get far p ≡ Some l → 4 ≤ l.capacity

-- the list of v got room, twice as many at most as it has gates; no gate changed
pub record GetsRoom (v : ℕ) (old new : List GateList) : Type 0 where
  pub capacity : ℕ
  pub list : new ≡ slice_set old v (record { items = items_at old v; capacity = capacity })
  pub more : capacity_at old v ≤ capacity
  pub doubled : capacity ≤ max (capacity_at old v) (2 * length (items_at old v))
