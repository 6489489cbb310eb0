-- Where gates stand in the lists of the variables that they read.
use Rattle.std.specs.Prelude.{◌≡◌, ◌≢◌, ◌⊎◌, ℕ, ◌<◌, ◌≤◌, List, length, Some, slice_get}
use Rattle.aig_base.specs.declared.readers.list_places.Places.{Places}
use Rattle.aig_base.specs.Readers.{GateList}
use Rattle.aig_base.specs.state.ReaderSlots.{capacity_at, items_at, with_items_at, Loses}

-- places from here on are kept
abbrev pub short : ℕ
short = 64

-- w stands in the list of v at place i
abbrev pub StandsAt : List GateList → ℕ → ℕ → ℕ → Type 0
StandsAt slots v i w = slice_get (items_at slots v) i ≡ Some w

-- i is kept as a place of w
pub record HasPlace (places : List Places) (w i : ℕ) : Type 0 where
  pub kept : Places
  pub at : slice_get places w ≡ Some kept
  pub is : (kept.first ≡ i) ⊎ (kept.second ≡ i)

-- i and j are kept as the two places of w
pub record HasListPlaces (places : List Places) (w i j : ℕ) : Type 0 where
  pub kept : Places
  pub at : slice_get places w ≡ Some kept
  pub are : ((kept.first ≡ i) × (kept.second ≡ j)) ⊎ ((kept.first ≡ j) × (kept.second ≡ i))

-- of each entry after the first ones the place is kept, at its gate; and there is a place for each variable, where a
-- list has room after the first ones
pub record AreKept (slots : List GateList) (places : List Places) : Type 0 where
  pub one : (v i w : ℕ) → short ≤ i → StandsAt slots v i w → HasPlace places w i
  pub two : (v x i j w : ℕ) → v ≢ x → short ≤ i → short ≤ j → StandsAt slots v i w → StandsAt slots x j w
      → HasListPlaces places w i j
  pub covered : (v : ℕ) → short < capacity_at slots v → length slots ≤ length places

-- nothing is lost of the table
pub record Extends (old new : List Places) : Type 0 where
  pub size : length old ≤ length new
  pub same : (w : ℕ) (p : Places) → slice_get old w ≡ Some p → slice_get new w ≡ Some p

-- of the places of w, the one that was `from` is `to`
pub record RenewsPlace (w from to : ℕ) (old new : List Places) : Type 0 where
  pub size : length new ≡ length old
  pub others : (x : ℕ) → x ≢ w → slice_get new x ≡ slice_get old x
  pub first : (p : Places) → slice_get old w ≡ Some p → p.first ≡ from
      → slice_get new w ≡ Some (record { first = to; second = p.second })
  pub second : (p : Places) → slice_get old w ≡ Some p → p.first ≢ from
      → slice_get new w ≡ Some (record { first = p.first; second = to })

-- these are the places of u, where one of them is kept
pub record WritesPlaces (u : ℕ) (p : Places) (old new : List Places) : Type 0 where
  pub size : length new ≡ length old
  pub others : (x : ℕ) → x ≢ u → slice_get new x ≡ slice_get old x
  pub here : (short ≤ p.first) ⊎ (short ≤ p.second) → slice_get new u ≡ Some p

-- in a list that lost an entry no other has moved after the first ones
pub record Stays (old new : List ℕ) (before after : List Places) : Type 0 where
  pub list : (i w : ℕ) → short ≤ i → slice_get new i ≡ Some w → slice_get old i ≡ Some w
  pub places : after ≡ before

-- in a list that lost an entry w moved to its place, and that is kept
pub record Shifts (w from to : ℕ) (old new : List ℕ) (before after : List Places) : Type 0 where
  pub was : slice_get old from ≡ Some w
  pub long : short ≤ from
  pub here : slice_get new to ≡ Some w
  pub others : (i x : ℕ) → i ≢ to → slice_get new i ≡ Some x → slice_get old i ≡ Some x
  pub renews : RenewsPlace w from to before after

abbrev pub StaysOrShifts : List ℕ → List ℕ → List Places → List Places → Type 0
StaysOrShifts old new before after =
    Stays old new before after ⊎ ((w from to : ℕ) × Shifts w from to old new before after)

-- u came to the places of p at the ends of the lists of v and x
pub record StandsNew (v x u : ℕ) (p : Places) (old new : List GateList) : Type 0 where
  pub capacities : (y : ℕ) → capacity_at new y ≡ capacity_at old y
  pub first : p.first ≡ length (items_at old v)
  pub second : p.second ≡ length (items_at old x)
  pub others : (y : ℕ) → y ≢ v → y ≢ x → items_at new y ≡ items_at old y
  pub entries : (y i w : ℕ) → StandsAt new y i w
      → StandsAt old y i w ⊎ ((w ≡ u) × (((y ≡ v) × (i ≡ p.first)) ⊎ ((y ≡ x) × (i ≡ p.second))))

-- u was taken out of the list of v, and the places of its entries are kept
pub record TakesFrom (v u : ℕ) (old new : List GateList) (before after : List Places) : Type 0 where
  pub left : List ℕ
  pub list : new ≡ with_items_at old v left
  pub loses : Loses u (items_at old v) left
  pub follows : StaysOrShifts (items_at old v) left before after
