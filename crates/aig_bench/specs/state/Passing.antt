-- A pass over one frame: some gates were evaluated, some wait, and the others have their cells of before (our own
-- choice).
use Rattle.std.specs.Prelude.{◌≡◌, ◌≢◌, ◌⊎◌, ℕ, ◌*◌, Bool, List, Some, slice_get}
use Rattle.aig_parts.specs.declared.ternary.Tern.{Tern}
use Rattle.aig_parts.specs.declared.gate.Gate.{Gate}
use Rattle.aig_base.specs.Grounded.{IsSource}
use Rattle.aig_parts.specs.Literal.{variable}
use Rattle.aig_base.specs.state.Marks.{IsMarked}
use Rattle.aig_base.specs.Readers.{IsSide}
use Rattle.aig_values.specs.Cells.{gate_value}
use Rattle.aig_bench.specs.BenchState.{CircuitAndRows, HasValue}
use Rattle.aig_bench.specs.state.Current.{HoldsInPair, HoldsSourcesInPair}

-- the variable's value is another than its old cell
pub record Differs (p : CircuitAndRows) (t : ℕ) (old : List Tern) (v : ℕ) : Type 0 where
  pub value : Tern
  pub value_is : HasValue p t (2 * v) value
  pub other : slice_get old v ≢ Some value

-- the gate is touched: it is one of those that are evaluated in any case, or reads a variable that differs
abbrev pub IsTouched : CircuitAndRows → ℕ → (ℕ → Type 0) → List Tern → Gate → Type 0
IsTouched p t forced old g = forced (variable g.lhs) ⊎ ((u : ℕ) × IsSide g u × Differs p t old u)

-- the same, as far as it is known: of a source, or of a gate that was evaluated
abbrev pub IsTouchedSoFar : CircuitAndRows → ℕ → (ℕ → Type 0) → List Tern → List Bool → Gate → Type 0
IsTouchedSoFar p t forced old done g =
    forced (variable g.lhs)
    ⊎ ((u : ℕ) × IsSide g u × (IsSource p.circuit u ⊎ IsMarked done u) × Differs p t old u)

pub record Passing (p : CircuitAndRows) (t : ℕ) (forced : ℕ → Type 0) (old row : List Tern)
    (marks done : List Bool) : Type 0 where
  pub sources : HoldsSourcesInPair p t row
  pub evaluated : (q : ℕ) (g : Gate) → slice_get p.circuit.gates q ≡ Some g → IsMarked done (variable g.lhs)
      → HoldsInPair p t row (variable g.lhs) × IsTouched p t forced old g
  pub others : (q : ℕ) (g : Gate) → slice_get p.circuit.gates q ≡ Some g → (IsMarked done (variable g.lhs) → ⊥)
      → slice_get row (variable g.lhs) ≡ slice_get old (variable g.lhs)
  pub linked : (q : ℕ) (g : Gate) → slice_get p.circuit.gates q ≡ Some g → IsTouchedSoFar p t forced old done g
      → IsMarked marks (variable g.lhs) ⊎ IsMarked done (variable g.lhs)
  pub queued_count : (q : ℕ) (g : Gate) → slice_get p.circuit.gates q ≡ Some g → IsMarked marks (variable g.lhs)
      → IsTouched p t forced old g × (IsMarked done (variable g.lhs) → ⊥)

-- each gate's old cell is the AND of its sides' old cells, but for those that are evaluated in any case
abbrev pub IsConsistent : CircuitAndRows → (ℕ → Type 0) → List Tern → Type 0
IsConsistent p forced old = (q : ℕ) (g : Gate) → slice_get p.circuit.gates q ≡ Some g
    → forced (variable g.lhs) ⊎ (slice_get old (variable g.lhs) ≡ Some (gate_value old g))
