-- A witness on a bench, whose values are tried one after the other.
use Rattle.std.specs.Prelude.{◌≡◌, ◌≢◌, ℕ, ◌-◌, ◌<◌, ◌≤◌, List, [], ◌∷◌, length, Some, slice_get}
use Rattle.aig_parts.specs.declared.ternary.Tern.{Tern}
use Rattle.aig_parts.specs.declared.ternary.Tern.TheVariants.{One}
use Rattle.aig_parts.specs.declared.raw.Raw.{Raw}
use Rattle.aig_base.specs.Circuit.{IsCircuit}
use Rattle.aig_base.specs.Value.{Value, start_of}
use Rattle.aig_sim.specs.declared.witness.verdict.Verdict.TheVariants as verdict
use Rattle.aig_sim.specs.Verdict.{IsVerdict, StartsWrong}
use Rattle.aig_sim.specs.WitnessText.{Witness}
use Rattle.aig_values.specs.InputRows.{HaveWidth, with_cell}
use Rattle.aig_bench.specs.BenchState.{CircuitAndRows}
use Rattle.aig_reduce.specs.Irreducible.{IsConfirmedWitness}
use Rattle.aig_reduce.specs.Reduction.{values_of, witness_of}
use Rattle.aig_base.specs.Resets.{HasOtherResets}
use Rattle.aig_reduce.specs.state.Places.{AreTried, Tries}

-- a pair that runs a circuit from a start
pub record Runs (raw : Raw) (pair : CircuitAndRows) (start : List Tern) : Type 0 where
  pub resets : HasOtherResets raw pair.circuit
  pub start_is : start_of pair.circuit ≡ start

-- a witness of the circuit, of one frame or more
pub record IsRunOf (raw : Raw) (w : Witness) : Type 0 where
  pub latches : length w.start ≡ length raw.latches
  pub widths : HaveWidth (length raw.inputs) w.rows
  pub some : w.rows ≢ []
  pub property : w.property < length raw.bad

-- the bench runs the circuit from the start, and this run is a confirmed witness
pub record RunsWitness (raw : Raw) (pair : CircuitAndRows) (property : ℕ) (start : List Tern) : Type 0 where
  pub circuit : IsCircuit raw
  pub resets : HasOtherResets raw pair.circuit
  pub start_is : start_of pair.circuit ≡ start
  pub confirmed : IsConfirmedWitness raw (witness_of property (start ∷ pair.rows))

-- lists of values that are a confirmed witness
abbrev pub Confirms : Raw → ℕ → List (List Tern) → Type 0
Confirms raw property values = IsVerdict raw (witness_of property values) verdict.Confirmed

-- the places of the given witness before position p of list t have been tried
pub record Reducing (raw : Raw) (given : Witness) (pair : CircuitAndRows) (property : ℕ) (start : List Tern) (t p : ℕ)
    : Type 0 where
  pub runs : RunsWitness raw pair property start
  pub property_is : property ≡ given.property
  pub tried : AreTried (Confirms raw property) (values_of given) (start ∷ pair.rows) t p

-- x was tried at a place of what the bench runs, which still is a confirmed witness
pub record TriesPlace (raw : Raw) (old : CircuitAndRows) (property : ℕ) (start : List Tern) (new : CircuitAndRows)
    (property' : ℕ) (start' : List Tern) (t p : ℕ) : Type 0 where
  pub runs : RunsWitness raw new property' start'
  pub property_is : property' ≡ property
  pub tries : Tries (Confirms raw property) (start ∷ old.rows) (start' ∷ new.rows) t p

-- a value was put at a place of what the bench runs
pub record PutsValue (raw : Raw) (old : CircuitAndRows) (start : List Tern) (t p : ℕ) (value : Tern)
    (new : CircuitAndRows)
    (start' : List Tern) : Type 0 where
  pub runs : Runs raw new start'
  pub values : start' ∷ new.rows ≡ with_cell (start ∷ old.rows) t p value

-- Values of a witness became x, all at once: where that run is confirmed, the places before position p of list t have
-- been tried. Before frame `first` its constraints are 1.
pub record Clearing (raw : Raw) (given : Witness) (pair : CircuitAndRows) (property : ℕ) (start : List Tern)
    (first t p : ℕ) : Type 0 where
  pub circuit : IsCircuit raw
  pub runs : Runs raw pair start
  pub run : IsRunOf raw (witness_of property (start ∷ pair.rows))
  pub property_is : property ≡ given.property
  pub starts : (i : ℕ) → StartsWrong raw start i → ⊥
  pub from : first ≤ t - 1
  pub constrained : (u i l : ℕ) → u < first → u < length pair.rows → slice_get raw.constraints i ≡ Some l
      → Value raw start pair.rows u l One
  pub tried : Confirms raw property (start ∷ pair.rows)
      → AreTried (Confirms raw property) (values_of given) (start ∷ pair.rows) t p
