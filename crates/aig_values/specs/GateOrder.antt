-- Gates in a topological order, in which they can be evaluated (our own choice).
-- Example: for `examples/two_gates.aag` the gate of 6, then that of 8.
use Rattle.std.specs.Prelude.{◌≡◌, ◌↔◌, Bool, ◌⊎◌, ℕ, ◌<◌, List, map, All, Contains, Some, slice_get}
use Rattle.aig_parts.specs.declared.gate.Gate.{Gate}
use Rattle.aig_parts.specs.declared.raw.Raw.{Raw}
use Rattle.aig_base.specs.Grounded.{IsSource}
use Rattle.aig_parts.specs.Literal.{variable}
use Rattle.aig_base.specs.Sections.{IsGate}
use Rattle.aig_base.specs.state.Marks.{IsMarked}

-- the variable is a source's, or a gate's among the first q
abbrev pub IsSourceOrEarlier : Raw → List Gate → ℕ → ℕ → Type 0
IsSourceOrEarlier raw gates q v =
    IsSource raw v ⊎ ((r : ℕ) × (g : Gate) × (r < q) × (slice_get gates r ≡ Some g) × (variable g.lhs ≡ v))

-- all gates of the circuit, each after the gates that it reads; a gate may be there more than once
pub record IsGateOrder (raw : Raw) (gates : List Gate) : Type 0 where
  pub known : (q : ℕ) (g : Gate) → slice_get gates q ≡ Some g → (r : ℕ) × (slice_get raw.gates r ≡ Some g)
  pub complete : (v : ℕ) → IsGate raw v → (q : ℕ) × (g : Gate) × (slice_get gates q ≡ Some g) × (variable g.lhs ≡ v)
  pub ready0 : (q : ℕ) (g : Gate) → slice_get gates q ≡ Some g → IsSourceOrEarlier raw gates q (variable g.rhs0)
  pub ready1 : (q : ℕ) (g : Gate) → slice_get gates q ≡ Some g → IsSourceOrEarlier raw gates q (variable g.rhs1)

-- the gates of these variables
pub record AreGatesOf (raw : Raw) (variables : List ℕ) (gates : List Gate) : Type 0 where
  pub known : All (λ g. (r : ℕ) × (slice_get raw.gates r ≡ Some g)) gates
  pub variables_are : map (λ g. variable g.lhs) gates ≡ variables

-- the marked variables are those that have this property
abbrev pub AreMarked : (ℕ → Type 0) → List Bool → Type 0
AreMarked P marks = (v : ℕ) → IsMarked marks v ↔ P v

-- these variables are marked besides
abbrev pub AddsMarks : List ℕ → List Bool → List Bool → Type 0
AddsMarks added old new = (v : ℕ) → IsMarked new v ↔ (IsMarked old v ⊎ Contains added v)
