-- Which cells an accepted edit touches, and which it changes (our own choice).
-- Example: `examples/two_gates.aag`, `11`: bit (0, 1) set to 0 touches 6 and 8 and changes both; a new gate 10 is
-- touched at each frame and changes none.
use Rattle.std.specs.Prelude.{◌≡◌, ◌≢◌, ◌⊎◌, ◌↔◌, ℕ, ◌+◌, ◌*◌, ◌<◌, List, [], ◌∷◌, length, Result, Ok, Err, Some}
use Rattle.std.specs.Prelude.{slice_get, Contains}
use Rattle.aig_parts.specs.declared.ternary.Tern.{Tern}
use Rattle.aig_parts.specs.declared.gate.Gate.{Gate}
use Rattle.aig_parts.specs.Literal.{variable}
use Rattle.aig_base.specs.Sections.{IsGate}
use Rattle.aig_bench.specs.Edit.{Edit, rewire, add_frame, append_gate, edited}
use Rattle.aig_bench.specs.declared.edit.EditFault.{EditFault}
use Rattle.aig_bench.specs.declared.edit.EditReport.{EditReport}
use Rattle.aig_bench.specs.BenchState.{CircuitAndRows, BenchState, HasValue}

-- the variable has another value at the frame after than before
pub record HasOther (p p' : CircuitAndRows) (t v : ℕ) : Type 0 where
  pub before : Tern
  pub after : Tern
  pub before_is : HasValue p t (2 * v) before
  pub after_is : HasValue p' t (2 * v) after
  pub other : after ≢ before

-- the frame is there before and after
abbrev pub IsThere : CircuitAndRows → CircuitAndRows → ℕ → Type 0
IsThere p p' t = (t < length p.rows) × (t < length p'.rows)

-- the gate of the variable reads one that has another value
abbrev pub ReadsOther : CircuitAndRows → CircuitAndRows → ℕ → ℕ → Type 0
ReadsOther p p' t v =
    (q : ℕ) × (g : Gate) × (slice_get p'.circuit.gates q ≡ Some g) × (variable g.lhs ≡ v)
    × (HasOther p p' t (variable g.rhs0) ⊎ HasOther p p' t (variable g.rhs1))

-- the cell is touched whatever its sides' values
abbrev pub IsForced : CircuitAndRows → Edit → ℕ → ℕ → Type 0
IsForced p (rewire lhs r0 r1) t v = (t < length p.rows) × (v ≡ variable lhs)
IsForced p (add_frame row) t v = (t ≡ length p.rows) × IsGate p.circuit v
IsForced p (append_gate r0 r1) t v = (t < length p.rows) × (v ≡ p.circuit.max_var + 1)
IsForced p _ t v = ⊥

abbrev pub Touches : CircuitAndRows → Edit → ℕ → ℕ → Type 0
Touches p e t v = IsForced p e t v ⊎ (IsThere p (edited p e) t × ReadsOther p (edited p e) t v)

abbrev pub Changes : CircuitAndRows → Edit → ℕ → ℕ → Type 0
Changes p e t v = IsGate p.circuit v × IsThere p (edited p e) t × HasOther p (edited p e) t v

-- each stands once
abbrev pub IsOnce : {X : Type 0} → List X → Type 0
IsOnce [] = Unit {0}
IsOnce (x ∷ xs) = (Contains xs x → ⊥) × IsOnce xs

-- so many cells: a list in which each of them stands once
pub record AreCells (P : ℕ → ℕ → Type 0) (n : ℕ) : Type 0 where
  pub cells : List (ℕ × ℕ)
  pub once : IsOnce cells
  pub each : (t v : ℕ) → Contains cells (t, v) ↔ P t v
  pub count : length cells ≡ n

-- what an edit that the bench answered evaluated: exactly the touched cells, each once; one that was refused, none
abbrev pub Works : BenchState → Edit → Result EditReport EditFault → BenchState → Type 0
Works old e (Ok report) new =
    AreCells (Touches old.pair e) report.evaluated × AreCells (Changes old.pair e) report.changed
    × (new.evaluations ≡ old.evaluations + report.evaluated)
Works old e (Err f) new = new.evaluations ≡ old.evaluations
