-- How far the search for a bad state has come.
use Rattle.std.specs.Prelude.{◌≡◌, ℕ, ◌<◌, List, length, take, Option, Some, slice_get}
use Rattle.aig_parts.specs.declared.raw.Raw.{Raw}
use Rattle.aig_parts.specs.declared.ternary.Tern.{Tern}
use Rattle.aig_parts.specs.declared.ternary.Tern.TheVariants.{One}
use Rattle.aig_base.specs.Value.{Value}
use Rattle.aig_values.specs.state.Frame.{AreStates}
use Rattle.aig_sim.specs.Reached.{IsAskedFor, Reaches}
use Rattle.aig_sim.specs.state.Checking.{ReadsNotOne}

-- by these cells property p is 1, the first that is asked for
pub record ReadsFirstBad (cells : List Tern) (bad : List ℕ) (asked : Option ℕ) (p : ℕ) : Type 0 where
  pub asked_for : IsAskedFor asked p
  pub within : p < length bad
  pub is_one : ReadsNotOne cells bad p → ⊥
  pub least : (q : ℕ) → IsAskedFor asked q → q < p → ReadsNotOne cells bad q

-- by these cells no property that is asked for is 1
abbrev pub ReadsNoBad : List Tern → List ℕ → Option ℕ → Type 0
ReadsNoBad cells bad asked = (q : ℕ) → IsAskedFor asked q → q < length bad → ReadsNotOne cells bad q

-- After t frames: the latches' values; all constraints were 1 so far, and no property that is asked for was reached.
pub record HasSearched (raw : Raw) (start : List Tern) (rows : List (List Tern)) (asked : Option ℕ) (t : ℕ)
    (states : List Tern) : Type 0 where
  pub states_are : AreStates raw start (take t rows) t states
  pub held : (u p l : ℕ) → u < t → slice_get raw.constraints p ≡ Some l → Value raw start (take t rows) u l One
  pub unreached : (u q : ℕ) → u < t → IsAskedFor asked q → Reaches raw start rows u q → ⊥
