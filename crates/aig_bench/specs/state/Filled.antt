-- Steps that fill the row of a new frame (our own choice).
use Rattle.std.specs.Prelude.{◌≡◌, ◌≢◌, ℕ, ◌+◌, List}
use Rattle.aig_parts.specs.declared.ternary.Tern.{Tern}
use Rattle.aig_base.specs.Value.{start_of}
use Rattle.aig_values.specs.state.Frame.{Renews}
use Rattle.aig_values.specs.InputRows.{row_at}
use Rattle.aig_bench.specs.BenchState.{CircuitAndRows}
use Rattle.aig_bench.specs.state.Current.{HoldsInPair}
use Rattle.aig_bench.specs.state.Engine.{EngineState}

-- only cells and the count of evaluations changed: nothing is queued
abbrev pub FillsCells : EngineState → EngineState → Type 0
FillsCells old new = new ≡ record old { cells = new.cells; evaluations = new.evaluations }

-- of the cells only the row of this frame changed, by so many evaluations
pub record FillsRow (t n : ℕ) (old new : EngineState) : Type 0 where
  pub same : FillsCells old new
  pub others : (u : ℕ) → u ≢ t → row_at new.cells u ≡ row_at old.cells u
  pub count : new.evaluations ≡ old.evaluations + n

-- what has its value in the one row has it in the other
abbrev pub KeepsRowValues : CircuitAndRows → ℕ → List Tern → List Tern → Type 0
KeepsRowValues p t row row' = Renews p.circuit (start_of p.circuit) p.rows t row row'

-- the source of the variable was given its value
pub record FillsSource (t v : ℕ) (old new : EngineState) : Type 0 where
  pub row : FillsRow t 0 old new
  pub keeps : KeepsRowValues old.pair t (row_at old.cells t) (row_at new.cells t)
  pub holds : HoldsInPair old.pair t (row_at new.cells t) v
