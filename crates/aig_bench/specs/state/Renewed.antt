-- Frames that were passed over, one after the other (our own choice).
use Rattle.std.specs.Prelude.{◌≡◌, ◌⊎◌, ℕ, suc, ◌+◌, ◌<◌, ◌≤◌, List, [], ◌∷◌, length, Some, slice_get, Contains}
use Rattle.aig_parts.specs.declared.ternary.Tern.{Tern}
use Rattle.aig_parts.specs.declared.gate.Gate.{Gate}
use Rattle.aig_parts.specs.Literal.{variable}
use Rattle.aig_base.specs.Sections.{IsGate}
use Rattle.aig_values.specs.InputRows.{row_at}
use Rattle.aig_bench.specs.state.Current.{IsCurrentRow, IsCurrentBefore, HoldsLatchesInPair}
use Rattle.aig_bench.specs.declared.edit.EditReport.{EditReport}
use Rattle.aig_bench.specs.state.Engine.{EngineState, IsClear, IsIdle}
use Rattle.aig_bench.specs.state.Entry.{LatchesRest, HasOtherSources}
use Rattle.aig_bench.specs.BenchState.{CircuitAndRows}
use Rattle.aig_bench.specs.state.Passing.{Differs, IsConsistent, IsTouched}
use Rattle.aig_bench.specs.state.Pending.{IsNextRow}
use Rattle.aig_bench.specs.Touched.{AreCells}

-- the frame is one of these
abbrev pub IsBetween : ℕ → ℕ → ℕ → Type 0
IsBetween first end t = (first ≤ t) × (t < end)

-- the gate of the variable is touched, by the cells before
abbrev pub IsTouchedCell : CircuitAndRows → List ℕ → List (List Tern) → ℕ → ℕ → Type 0
IsTouchedCell p forced old t v =
    (q : ℕ) × (g : Gate) × (slice_get p.circuit.gates q ≡ Some g) × (variable g.lhs ≡ v)
    × IsTouched p t (Contains forced) (row_at old t) g

abbrev pub IsChangedCell : CircuitAndRows → List (List Tern) → ℕ → ℕ → Type 0
IsChangedCell p old t v = IsGate p.circuit v × Differs p t (row_at old t) v

-- the cells are those of before an edit: from this frame on each follows from the others, but for those of gates that
-- are evaluated in any case
pub record AreStaleFrom (p : CircuitAndRows) (cells : List (List Tern)) (forced : List ℕ) (first : ℕ) : Type 0 where
  pub first_is : first ≤ length p.rows
  pub before : IsCurrentBefore p first cells
  pub gates : (v : ℕ) → Contains forced v → IsGate p.circuit v
  pub consistent : (t : ℕ) → first ≤ t → t < length p.rows → IsConsistent p (Contains forced) (row_at cells t)
      × HasOtherSources p t (row_at cells t) []
  pub next : (t : ℕ) → first ≤ t → suc t < length p.rows → IsNextRow p.circuit (row_at cells t) (row_at cells (suc t))

-- the same of an engine in which no gate waits: the latches that are not carried into the frame have their values there
pub record IsStaleFrom (s : EngineState) (forced : List ℕ) (first : ℕ) : Type 0 where
  pub queued : IsClear s.queued
  pub ahead : IsClear s.ahead
  pub cells : AreStaleFrom s.pair s.cells forced first
  pub carried : first < length s.pair.rows → LatchesRest s.pair first (row_at s.cells first) s.here

-- the same where the input at this position has another value at the frame, and nothing is to be looked at
pub record IsStaleFromBit (s : EngineState) (frame position : ℕ) : Type 0 where
  pub idle : IsIdle s.queued s.here s.ahead
  pub before : IsCurrentBefore s.pair frame s.cells
  pub consistent : (t : ℕ) → frame ≤ t → t < length s.pair.rows → IsConsistent s.pair (Contains []) (row_at s.cells t)
  pub here : (l : ℕ) → slice_get s.pair.circuit.inputs position ≡ Some l
      → HasOtherSources s.pair frame (row_at s.cells frame) (variable l ∷ [])
  pub stale : (t : ℕ) → frame < t → t < length s.pair.rows → HasOtherSources s.pair t (row_at s.cells t) []
  pub latches : HoldsLatchesInPair s.pair frame (row_at s.cells frame)
  pub next : (t : ℕ) → frame ≤ t → suc t < length s.pair.rows
      → IsNextRow s.pair.circuit (row_at s.cells t) (row_at s.cells (suc t))

-- from the old cells on, the rows of these frames became current, and so many of their cells were touched and changed
pub record Renewed (p : CircuitAndRows) (forced : List ℕ) (first end : ℕ) (old new : List (List Tern))
    (evaluated changed : ℕ) : Type 0 where
  pub others : (t : ℕ) → (t < first) ⊎ (end ≤ t) → row_at new t ≡ row_at old t
  pub current : (t : ℕ) → IsBetween first end t → IsCurrentRow p t (row_at new t)
  pub touched : AreCells (λ t v. IsBetween first end t × IsTouchedCell p forced old t v) evaluated
  pub changed_cells : AreCells (λ t v. IsBetween first end t × IsChangedCell p old t v) changed

-- the frames from the first one up to this one were renewed, and the latches that are carried into it are known
pub record RenewsUpTo (forced : List ℕ) (first t : ℕ) (old new : EngineState) (report : EditReport) : Type 0 where
  pub pair : new.pair ≡ old.pair
  pub queued : IsClear new.queued
  pub ahead : IsClear new.ahead
  pub count : new.evaluations ≡ old.evaluations + report.evaluated
  pub few : report.changed ≤ report.evaluated
  pub renewed : Renewed old.pair forced first t old.cells new.cells report.evaluated report.changed
  pub carried : t < length old.pair.rows → LatchesRest old.pair t (row_at new.cells t) new.here

-- all frames from this one on were renewed, and nothing is to be looked at
pub record RenewsAll (forced : List ℕ) (first : ℕ) (old new : EngineState) (report : EditReport) : Type 0 where
  pub pair : new.pair ≡ old.pair
  pub idle : IsIdle new.queued new.here new.ahead
  pub count : new.evaluations ≡ old.evaluations + report.evaluated
  pub few : report.changed ≤ report.evaluated
  pub renewed : Renewed old.pair forced first (length old.pair.rows) old.cells new.cells report.evaluated report.changed
