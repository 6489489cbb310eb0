-- The fan-outs of the variables, as the code keeps them.
use Rattle.std.specs.Prelude.{◌≡◌, ◌⊎◌, ℕ, ◌+◌, ◌<◌, ◌≤◌, List, length, cond, min, nat_eq}
use Rattle.aig_parts.specs.Formed.{limit}
use Rattle.aig_base.specs.declared.readers.list_places.Places.{Places}
use Rattle.aig_base.specs.Readers.{GateList}
use Rattle.aig_base.specs.state.ListPlaces.{AreKept}
use Rattle.aig_base.specs.state.ReaderSlots.{tally}

-- for each variable the gates that read it, with the room there, and for how many variables there is memory
pub record FanOutLists : Type 0 where
  pub slots : List GateList
  pub fitting : ℕ

-- for how many variables there is memory: where a table of places is kept, it is as long
abbrev pub fitting_lists : ℕ → ℕ → ℕ
fitting_lists capacity places = cond (nat_eq places 0) capacity (min capacity places)

-- each gate stands in two lists at most and once in each; the gates are variables, of which there are few
pub record AreTidy (slots : List GateList) : Type 0 where
  pub once : (v w : ℕ) → tally slots v w ≤ 1
  pub few : (v x y w : ℕ) → 1 ≤ tally slots v w → 1 ≤ tally slots x w → 1 ≤ tally slots y w
      → (v ≡ x) ⊎ (v ≡ y) ⊎ (x ≡ y)
  pub within : (v w : ℕ) → 1 ≤ tally slots v w → w < length slots
  pub size : length slots ≤ limit + 1

-- the lists are tidy, and the places of their gates are kept
pub record AreFanOuts (slots : List GateList) (places : List Places) : Type 0 where
  pub tidy : AreTidy slots
  pub kept : AreKept slots places
