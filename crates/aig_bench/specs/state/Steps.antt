-- Steps of an engine over one frame: what was evaluated of it, and what that answers for (our own choice).
use Rattle.std.specs.Prelude.{◌≡◌, ℕ, suc, ◌+◌, ◌*◌, ◌≤◌, Bool, if◌then◌else◌, List, Contains}
use Rattle.aig_parts.specs.declared.ternary.Tern.{Tern}
use Rattle.aig_parts.specs.Formed.{limit}
use Rattle.aig_base.specs.state.Marks.{IsMarked}
use Rattle.aig_values.specs.InputRows.{row_at}
use Rattle.aig_bench.specs.declared.edit.EditReport.{EditReport}
use Rattle.aig_bench.specs.state.Engine.{EngineState, ChangesRow, IsClear}
use Rattle.aig_bench.specs.state.Entry.{Carries, Entering, LatchesRest, Puts, HasOtherSources}
use Rattle.aig_bench.specs.state.Passing.{IsConsistent}
use Rattle.aig_bench.specs.state.Sweep.{Sweeps, PassStarts, PassEnds}

-- no frame has more evaluations: as many levels as there can be, of as many gates
abbrev pub frame_work : ℕ
frame_work = (limit + 1) * (limit + 1)

-- what the evaluation of one gate counts for, by whether its cell changed
abbrev pub report_of : Bool → EditReport
report_of b = record { evaluated = 1; changed = if b then 1 else 0 }

-- the source of the variable was put
pub record PutsSource (t v : ℕ) (old new : EngineState) : Type 0 where
  pub row : ChangesRow t 0 old new
  pub here : new.here ≡ old.here
  pub puts : Puts old.pair t v (row_at old.cells t) old.queued (row_at new.cells t) new.queued

-- the latches that were carried into the frame were put
pub record PutsLatches (t : ℕ) (old new : EngineState) : Type 0 where
  pub row : ChangesRow t 0 old new
  pub none : IsClear new.here
  pub carries : Carries old.pair t (λ i. IsMarked old.here (suc i)) (row_at old.cells t) old.queued (row_at new.cells t)
      new.queued

-- the waiting gates from one level up to another were evaluated
pub record SettlesLevels (t n m : ℕ) (old new : EngineState) (report : EditReport) : Type 0 where
  pub row : ChangesRow t report.evaluated old new
  pub here : new.here ≡ old.here
  pub few : report.changed ≤ report.evaluated
  pub sweeps : Sweeps old.pair t n m (row_at old.cells t) old.queued (row_at new.cells t) new.queued
      report.evaluated report.changed

-- all waiting gates were evaluated, and a pass that started has ended
pub record Settles (t : ℕ) (old new : EngineState) (report : EditReport) : Type 0 where
  pub row : ChangesRow t report.evaluated old new
  pub here : new.here ≡ old.here
  pub few : report.changed ≤ report.evaluated
  pub ends : (forced : List ℕ) (before : List Tern) → IsConsistent old.pair (Contains forced) before
      → PassStarts old.pair t (Contains forced) before (row_at old.cells t) old.queued
      → PassEnds old.pair t (Contains forced) before (row_at new.cells t) new.queued report.evaluated report.changed

-- latches were put and gates evaluated, and a pass into which sources had been put has ended
pub record PassesOver (t : ℕ) (old new : EngineState) (report : EditReport) : Type 0 where
  pub row : ChangesRow t report.evaluated old new
  pub none : IsClear new.here
  pub few : report.changed ≤ report.evaluated
  pub ends : (forced : List ℕ) (before : List Tern) (put : List ℕ) → IsConsistent old.pair (Contains forced) before
      → Entering old.pair t (Contains forced) before (row_at old.cells t) old.queued put
      → HasOtherSources old.pair t before put
      → LatchesRest old.pair t before old.here
      → PassEnds old.pair t (Contains forced) before (row_at new.cells t) new.queued report.evaluated report.changed
