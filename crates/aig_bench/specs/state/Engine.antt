-- What contracts see of an engine: a pair, a row of cells a frame, and what is still to be looked at (our own choice).
use Rattle.std.specs.Prelude.{◌≡◌, ◌≢◌, ℕ, ◌+◌, Bool, List, length}
use Rattle.aig_parts.specs.declared.ternary.Tern.{Tern}
use Rattle.aig_base.specs.state.Marks.{IsMarked}
use Rattle.aig_values.specs.InputRows.{row_at}
use Rattle.aig_bench.specs.declared.engine.sweep_order.Way.{Way}
use Rattle.aig_bench.specs.BenchState.{CircuitAndRows}
use Rattle.aig_bench.specs.state.Current.{AreCurrent}
use Rattle.aig_bench.specs.state.Latches.{QueuesNextLatches}

-- how the gates are taken at a new frame, the gates that wait, by variable, the first one of each level's chain, and
-- the latches that are carried into the current frame and into the next one, by number
pub record EngineState : Type 0 where
  pub pair : CircuitAndRows
  pub cells : List (List Tern)
  pub levels : List ℕ
  pub way : Way
  pub queued : List Bool
  pub heads : List ℕ
  pub here : List Bool
  pub ahead : List Bool
  pub evaluations : ℕ

-- nothing is marked
abbrev pub IsClear : List Bool → Type 0
IsClear marks = (v : ℕ) → IsMarked marks v → ⊥

-- no gate waits, and no latch is carried
pub record IsIdle (gates latches next : List Bool) : Type 0 where
  pub queued : IsClear gates
  pub here : IsClear latches
  pub ahead : IsClear next

-- what a bench keeps: the cells are the values of the current pair, and there is nothing to be looked at
pub record IsSettled (s : EngineState) : Type 0 where
  pub current : AreCurrent s.pair (length s.pair.rows) s.cells
  pub idle : IsIdle s.queued s.here s.ahead

-- only the row of this frame changed, by so many evaluations, and each latch that follows a changed cell is carried
-- ahead
pub record ChangesRow (t n : ℕ) (old new : EngineState) : Type 0 where
  pub pair : new.pair ≡ old.pair
  pub levels : new.levels ≡ old.levels
  pub others : (u : ℕ) → u ≢ t → row_at new.cells u ≡ row_at old.cells u
  pub next_latches : QueuesNextLatches old.pair.circuit (row_at old.cells t) old.ahead (row_at new.cells t) new.ahead
  pub evaluations : new.evaluations ≡ old.evaluations + n
