-- The state of a session, and how edits lead from one to the next (our own choice).
-- Example: `set 0-1 rst 0` leads by two edits.
use Rattle.std.specs.Prelude.{◌≡◌, ◌<◌, ◌≤◌, ℕ, List, [], ◌∷◌, All, length, map, replicate, Bool, Option}
use Rattle.std.specs.List.{flat_map, range_with_len, zip}
use Rattle.aig_parts.specs.declared.latch.Latch.{Latch}
use Rattle.aig_parts.specs.declared.raw.Raw.{Raw}
use Rattle.aig_parts.specs.declared.ternary.Tern.{Tern}
use Rattle.aig_parts.specs.declared.ternary.Tern.TheVariants.{X}
use Rattle.aig_bench.specs.BenchState.{CircuitAndRows}
use Rattle.aig_why.specs.Why.{Run}
use Rattle.aig_bench.specs.Edit.{Edit, edited, Forbids, NoneApplies, add_frame, drop_frame, set_bit, set_reset}

-- A circuit whose resets are the run's start, and its rows; the latches with the resets of the file; the property of
-- the witness that was opened; the circuit and the run that were read; the run that was read or written last; whether a
-- gate or an output was edited since the circuit was read or written; whether the line before was a `quit` that said
-- what is unsaved.
pub record SessionState : Type 0 where
  pub pair : CircuitAndRows
  pub latches : List Latch
  pub property : Option ℕ
  pub first : CircuitAndRows
  pub kept : Run
  pub has_edited_circuit : Bool
  pub has_warned : Bool

-- the circuit that `save` writes: as it is now, with the resets of the file
abbrev pub circuit_of : SessionState → Raw
circuit_of s = record s.pair.circuit { latches = s.latches }

-- these edits in turn, each of them possible, lead from one pair to another
unfoldable pub Leads : CircuitAndRows → List Edit → CircuitAndRows → Type 0
Leads p [] q = q ≡ p
Leads p (e ∷ more) q = NoneApplies (Forbids p e) × Leads (edited p e) more q

-- inputs get values at a frame
abbrev pub row_edits : ℕ → List ℕ → List Tern → List Edit
row_edits t positions values = map (λ pair. set_bit t pair.0 pair.1) (zip positions values)

-- inputs get values at so many frames from a frame on
abbrev pub set_edits : ℕ → ℕ → List ℕ → List Tern → List Edit
set_edits first count positions values = flat_map (λ t. row_edits t positions values) (range_with_len first count)

-- there is a value for each position of an input, and the run has the frames from the first up to the end
pub record AreSettable (p : CircuitAndRows) (first end : ℕ) (positions : List ℕ) (values : List Tern) : Type 0 where
  pub order : first ≤ end
  pub within : end ≤ length p.rows
  pub are_inputs : All (λ i. i < length p.circuit.inputs) positions
  pub size : length values ≡ length positions

-- latches get values at frame 0
abbrev pub start_edits : List ℕ → List Tern → List Edit
start_edits latches values = map (λ pair. set_reset pair.0 pair.1) (zip latches values)

-- frames more, with x at each of so many inputs
abbrev pub add_edits : ℕ → ℕ → List Edit
add_edits width count = replicate count (add_frame (replicate width X))

-- frames less
abbrev pub drop_edits : ℕ → List Edit
drop_edits count = replicate count drop_frame
