-- The lists of readers with their room, as the code has them.
use Rattle.std.specs.Prelude.{◌≡◌, ◌≢◌, ◌⊎◌, ℕ, ◌+◌, ◌-◌, ◌<◌, ◌≤◌, List, [], ◌∷◌, ◌++◌, length, map, count_by, nat_eq}
use Rattle.std.specs.Prelude.{Some, slice_get, slice_index_or, slice_set}
use Rattle.aig_parts.specs.declared.gate.Gate.{Gate}
use Rattle.aig_parts.specs.declared.raw.Raw.{Raw}
use Rattle.aig_parts.specs.Literal.{variable}
use Rattle.aig_base.specs.Readers.{GateList, IsSide}

-- a gate of the variable w, before position n, reads the variable v
abbrev pub ReadsBefore : Raw → ℕ → ℕ → ℕ → Type 0
ReadsBefore raw n w v =
    (q : ℕ) × (g : Gate) × (q < n) × (slice_get raw.gates q ≡ Some g) × (variable g.lhs ≡ w) × IsSide g v

-- where there is no list
abbrev pub no_list : GateList
no_list = record { items = []; capacity = 0 }

-- the list of v
abbrev pub items_at : List GateList → ℕ → List ℕ
items_at slots v = (slice_index_or slots v no_list).items

-- how many fit into the list of v
abbrev pub capacity_at : List GateList → ℕ → ℕ
capacity_at slots v = (slice_index_or slots v no_list).capacity

-- v has this list, with the room that it had
abbrev pub with_items_at : List GateList → ℕ → List ℕ → List GateList
with_items_at slots v items = slice_set slots v (record { items = items; capacity = capacity_at slots v })

-- how often w stands in the list of v
abbrev pub tally : List GateList → ℕ → ℕ → ℕ
tally slots v w = count_by (nat_eq w) (items_at slots v)

-- one more fits into the list
abbrev pub HasRoom : GateList → Type 0
HasRoom s = length s.items + 1 ≤ s.capacity

-- one more fits into the list of v
abbrev pub FitsOneReader : List GateList → ℕ → Type 0
FitsOneReader slots v = HasRoom (slice_index_or slots v no_list)

-- u was taken out of a list where it stood
pub record Loses (u : ℕ) (old new : List ℕ) : Type 0 where
  pub here : count_by (nat_eq u) new ≡ count_by (nat_eq u) old - 1
  pub others : (w : ℕ) → w ≢ u → count_by (nat_eq w) new ≡ count_by (nat_eq w) old
  pub shorter : length new ≤ length old

-- u was taken out of the list of v
pub record TakesOut (v u : ℕ) (old new : List GateList) : Type 0 where
  pub size : length new ≡ length old
  pub here : tally new v u ≡ 0
  pub others : (x w : ℕ) → (x ≢ v) ⊎ (w ≢ u) → tally new x w ≡ tally old x w
  pub room : (x : ℕ) → FitsOneReader old x → FitsOneReader new x

-- u was added to the list of v
pub record AddsReader (v u : ℕ) (old new : List GateList) : Type 0 where
  pub size : length new ≡ length old
  pub here : tally new v u ≡ tally old v u + 1
  pub others : (x w : ℕ) → (x ≢ v) ⊎ (w ≢ u) → tally new x w ≡ tally old x w
  pub room : (x : ℕ) → x ≢ v → FitsOneReader old x → FitsOneReader new x

-- u was added to the lists of v and x, once where the two are one
pub record AddsBoth (v x u : ℕ) (old new : List GateList) : Type 0 where
  pub size : length new ≡ length old
  pub here : (y : ℕ) → (y ≡ v) ⊎ (y ≡ x) → tally new y u ≡ tally old y u + 1
  pub away : (y : ℕ) → y ≢ v → y ≢ x → tally new y u ≡ tally old y u
  pub others : (y w : ℕ) → w ≢ u → tally new y w ≡ tally old y w

-- an empty list was added at the end, and then u to the lists of v and x
pub record Appends (v x u : ℕ) (old new : List GateList) : Type 0 where
  pub last : GateList
  pub empty : last.items ≡ []
  pub both : AddsBoth v x u (old ++ last ∷ []) new

-- u was taken out of the lists of a and b, and then added to those of c and d
pub record MovesReader (a b c d u : ℕ) (old new : List GateList) : Type 0 where
  pub first : List GateList
  pub second : List GateList
  pub out0 : TakesOut a u old first
  pub out1 : TakesOut b u first second
  pub both : AddsBoth c d u second new

-- no list changed, and where there was room there is room
pub record KeepsLists (old new : List GateList) : Type 0 where
  pub lists : map (λ s. s.items) new ≡ map (λ s. s.items) old
  pub room : (x : ℕ) → FitsOneReader old x → FitsOneReader new x

-- room was made, and then u was added to the lists of v and x
pub record Enters (v x u : ℕ) (old new : List GateList) : Type 0 where
  pub roomy : List GateList
  pub keeps : KeepsLists old roomy
  pub both : AddsBoth v x u roomy new

-- the lists of n variables have what P says, each once
pub record AreTallied (n : ℕ) (P : ℕ → ℕ → Type 0) (slots : List GateList) : Type 0 where
  pub size : length slots ≡ n
  pub once : (v w : ℕ) → tally slots v w ≤ 1
  pub only : (v w : ℕ) → 1 ≤ tally slots v w → P w v
  pub all : (v w : ℕ) → v < n → P w v → 1 ≤ tally slots v w
