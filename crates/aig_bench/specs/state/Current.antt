-- When the cells of a grid are the values of a pair (our own choice).
use Rattle.std.specs.Prelude.{◌≡◌, ℕ, suc, ◌+◌, ◌*◌, ◌<◌, ◌≤◌, Bool, true, false, List, length, Some, slice_get}
use Rattle.aig_parts.specs.declared.ternary.Tern.{Tern}
use Rattle.aig_parts.specs.declared.ternary.Tern.TheVariants.{Zero}
use Rattle.aig_parts.specs.declared.raw.Raw.{Raw}
use Rattle.aig_base.specs.Grounded.{IsSource}
use Rattle.aig_base.specs.Sections.{IsGate}
use Rattle.aig_base.specs.Value.{start_of}
use Rattle.aig_values.specs.state.Frame as frame
use Rattle.aig_values.specs.InputRows.{row_at}
use Rattle.aig_bench.specs.declared.engine.driven_circuit.DrivenCircuit.{DrivenCircuit}
use Rattle.aig_bench.specs.BenchState.{CircuitAndRows, HasValue}
use Rattle.aig_bench.specs.state.DrivenCircuit.{IsDriven, pair_of}

-- a flag for each variable, true for those of gates
pub record AreGateFlags (raw : Raw) (flags : List Bool) : Type 0 where
  pub size : length flags ≡ raw.max_var + 1
  pub gates : (v : ℕ) → v ≤ raw.max_var → IsGate raw v → slice_get flags v ≡ Some true
  pub others : (v : ℕ) → v ≤ raw.max_var → (IsGate raw v → ⊥) → slice_get flags v ≡ Some false

-- so many rows of cells, a cell a variable, with 0 at variable 0
pub record AreRows (raw : Raw) (frames : ℕ) (cells : List (List Tern)) : Type 0 where
  pub frames_are : length cells ≡ frames
  pub widths : (t : ℕ) → t < frames → length (row_at cells t) ≡ raw.max_var + 1
  pub constants : (t : ℕ) → t < frames → slice_get (row_at cells t) 0 ≡ Some Zero

-- a grid for the driven circuit, whatever its values
pub record IsLaidOut (driven : DrivenCircuit) (flags : List Bool) (cells : List (List Tern)) : Type 0 where
  pub flags_are : AreGateFlags driven.circuit flags
  pub rows_are : AreRows driven.circuit (length driven.stimulus.rows) cells

-- in the row of a frame the cell of the variable is its value
abbrev pub HoldsInPair : CircuitAndRows → ℕ → List Tern → ℕ → Type 0
HoldsInPair p t row v = frame.Holds p.circuit (start_of p.circuit) p.rows t row v

abbrev pub HoldsInputsInPair : CircuitAndRows → ℕ → List Tern → Type 0
HoldsInputsInPair p t row = frame.HoldsInputs p.circuit (start_of p.circuit) p.rows t row

abbrev pub HoldsLatchesInPair : CircuitAndRows → ℕ → List Tern → Type 0
HoldsLatchesInPair p t row = frame.HoldsLatches p.circuit (start_of p.circuit) p.rows t row

abbrev pub HoldsSourcesInPair : CircuitAndRows → ℕ → List Tern → Type 0
HoldsSourcesInPair p t row = frame.HoldsSources p.circuit (start_of p.circuit) p.rows t row

-- the row of a frame has the value of each variable that is defined
abbrev pub IsCurrentRow : CircuitAndRows → ℕ → List Tern → Type 0
IsCurrentRow p t row = frame.HoldsAll p.circuit (start_of p.circuit) p.rows t row

-- so do the rows of the first n frames
pub record AreCurrent (p : CircuitAndRows) (n : ℕ) (cells : List (List Tern)) : Type 0 where
  pub each : (t : ℕ) → t < n → IsCurrentRow p t (row_at cells t)

-- what the latches at the next frame rest on
abbrev pub IsCurrentBefore : CircuitAndRows → ℕ → List (List Tern) → Type 0
IsCurrentBefore p t cells = (u : ℕ) → t ≡ suc u → IsCurrentRow p u (row_at cells u)

-- at a frame of the pair, this is the value of an input or of a latch
pub record IsSourceValue (p : CircuitAndRows) (t v : ℕ) (w : Tern) : Type 0 where
  pub frame : t < length p.rows
  pub positive : 0 < v
  pub source : IsSource p.circuit v
  pub value : HasValue p t (2 * v) w

-- the next frame to fill: one of the pair, with current values in the frame before it
pub record IsNext (p : CircuitAndRows) (t : ℕ) (cells : List (List Tern)) : Type 0 where
  pub frame : t < length p.rows
  pub before : IsCurrentBefore p t cells

-- what a bench keeps: a grid for its driven circuit, with the values of all frames
pub record IsBench (driven : DrivenCircuit) (flags : List Bool) (cells : List (List Tern)) : Type 0 where
  pub driven_is : IsDriven driven
  pub laid_out : IsLaidOut driven flags cells
  pub current : AreCurrent (pair_of driven) (length driven.stimulus.rows) cells
