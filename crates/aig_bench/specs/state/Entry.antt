-- The start of a pass over a frame: some sources have their values, and what reads those that differ waits (our own
-- choice).
use Rattle.std.specs.Prelude.{◌≡◌, ◌⊎◌, ◌↔◌, ℕ, suc, Bool, List, ◌∷◌, Some, slice_get, Contains}
use Rattle.aig_parts.specs.declared.ternary.Tern.{Tern}
use Rattle.aig_parts.specs.declared.ternary.Tern.TheVariants.{Zero}
use Rattle.aig_parts.specs.declared.latch.Latch.{Latch}
use Rattle.aig_base.specs.Grounded.{IsSource}
use Rattle.aig_parts.specs.Literal.{variable}
use Rattle.aig_base.specs.state.Marks.{IsMarked}
use Rattle.aig_base.specs.Readers.{ReadsVariable}
use Rattle.aig_bench.specs.BenchState.{CircuitAndRows}
use Rattle.aig_bench.specs.state.Current.{HoldsInPair}
use Rattle.aig_bench.specs.state.Passing.{Differs}

-- these sources were put
pub record Entering (p : CircuitAndRows) (t : ℕ) (forced : ℕ → Type 0) (old row : List Tern) (marks : List Bool)
    (put : List ℕ) : Type 0 where
  pub sources : (v : ℕ) → Contains put v → IsSource p.circuit v
  pub holds : (v : ℕ) → Contains put v → HoldsInPair p t row v
  pub others : (v : ℕ) → (Contains put v → ⊥) → slice_get row v ≡ slice_get old v
  pub queued : (u : ℕ) → IsMarked marks u
      ↔ (forced u ⊎ ((v : ℕ) × Contains put v × ReadsVariable p.circuit u v × Differs p t old v))

-- whatever sources were put before, this one was put after them
pub record Puts (p : CircuitAndRows) (t v : ℕ) (row : List Tern) (marks : List Bool) (row' : List Tern)
    (marks' : List Bool) : Type 0 where
  pub enter : (forced : List ℕ) (old : List Tern) (put : List ℕ) → Entering p t (Contains forced) old row marks put
      → Entering p t (Contains forced) old row' marks' (v ∷ put)

-- the latches at these positions were put after them
pub record Carried (p : CircuitAndRows) (t : ℕ) (here : ℕ → Type 0) (forced : List ℕ) (old row : List Tern)
    (marks : List Bool) (put : List ℕ) : Type 0 where
  pub now_put : List ℕ
  pub entering : Entering p t (Contains forced) old row marks now_put
  pub kept : (v : ℕ) → Contains put v → Contains now_put v
  pub latches : (i : ℕ) (x : Latch) → here i → slice_get p.circuit.latches i ≡ Some x
      → Contains now_put (variable x.lit)

pub record Carries (p : CircuitAndRows) (t : ℕ) (here : ℕ → Type 0) (row : List Tern) (marks : List Bool)
    (row' : List Tern) (marks' : List Bool) : Type 0 where
  pub carry : (forced : List ℕ) (old : List Tern) (put : List ℕ) → Entering p t (Contains forced) old row marks put
      → Carried p t here forced old row' marks' put

-- variable 0 and the inputs that are not put have their values in the old cells
pub record HasOtherSources (p : CircuitAndRows) (t : ℕ) (old : List Tern) (put : List ℕ) : Type 0 where
  pub constant : slice_get old 0 ≡ Some Zero
  pub inputs : (i l : ℕ) → slice_get p.circuit.inputs i ≡ Some l → (Contains put (variable l) → ⊥)
      → HoldsInPair p t old (variable l)

-- the latches that are not marked have their values in the old cells
abbrev pub LatchesRest : CircuitAndRows → ℕ → List Tern → List Bool → Type 0
LatchesRest p t old marks = (i : ℕ) (x : Latch) → slice_get p.circuit.latches i ≡ Some x → (IsMarked marks (suc i) → ⊥)
    → HoldsInPair p t old (variable x.lit)
