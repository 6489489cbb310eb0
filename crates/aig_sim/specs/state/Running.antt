-- How far a simulation has come, whatever it writes of its frames.
use Rattle.std.specs.Prelude.{◌≡◌, ℕ, ◌+◌, ◌-◌, ◌^◌, ◌≤◌, min, List, [], ◌++◌, length, Option, Result}
use Rattle.aig_parts.specs.declared.ternary.Tern.{Tern}
use Rattle.aig_parts.specs.declared.raw.Raw.{Raw}
use Rattle.aig_bytes.specs.Bytes.{after, before, IsBeginning}
use Rattle.aig_base.specs.Value.{start_of}
use Rattle.aig_sim.specs.declared.stimulus.row_parser.Shape.TheVariants.{Row}
use Rattle.aig_sim.specs.declared.simulation.Simulation.{Simulation}
use Rattle.aig_sim.specs.declared.stimulus.fault.StimFault.{StimFault}
use Rattle.aig_sim.specs.declared.stimulus.fault.StimFault.TheVariants as fault
use Rattle.aig_values.specs.state.Frame.{AreStates}
use Rattle.aig_sim.specs.RowParser.{HasRead}
use Rattle.aig_sim.specs.Simulated.{Streams, BeginsWithRows, SimulationEnds}
use Rattle.aig_sim.specs.StimulusText.{HasFaultyLine}

-- which text a run from a start with some rows has
abbrev pub RunText : Type 1
RunText = Raw → List Tern → List (List Tern) → List ℕ → Type 0

-- of which rows a recorder has recorded the frames
abbrev pub Recorded : Type 0 → Type 1
Recorded T = T → Raw → List Tern → List (List Tern) → Type 0

-- there is room for a row of the circuit, and its frames can be recorded
abbrev pub HasRowRoom : {T : Type 0} → (T → Raw → Type 0) → Simulation T → Type 0
HasRowRoom fits s = (s.line.width ≡ length s.machine.circuit.inputs) × (s.line.width ≤ s.line.room)
    × fits s.recorder s.machine.circuit

-- nothing was read, and no frame recorded
pub record SimulationStarts {T : Type 0} (is_text : RunText) (recorded : Recorded T) (s : Simulation T) : Type 0 where
  pub states_are : s.machine.states ≡ start_of s.machine.circuit
  pub shape_is : s.line.shape ≡ Row
  pub values_are : s.line.values ≡ []
  pub frames_are : s.frames ≡ 0
  pub no_text : is_text s.machine.circuit (start_of s.machine.circuit) [] []
  pub none_recorded : recorded s.recorder s.machine.circuit (start_of s.machine.circuit) []

-- The text was read: its rows were simulated, their frames' text was written after `start`, and no write failed.
pub record Running {T : Type 0} (is_text : RunText) (recorded : Recorded T) (raw : Raw) (start : Option (List ℕ))
    (count : ℕ)
    (text : List ℕ) (s : Simulation T) (written : Option (List ℕ)) (failures : ℕ) : Type 0 where
  pub rows : List (List Tern)
  pub trace : List ℕ
  pub circuit_is : s.machine.circuit ≡ raw
  pub has_read : HasRead (length raw.inputs) text rows s.line.shape s.line.values
  pub states_are : AreStates raw (start_of raw) rows (length rows) s.machine.states
  pub frames_are : s.frames ≡ min (length rows) (2 ^ 64 - 1)
  pub recorded_are : recorded s.recorder raw (start_of raw) rows
  pub trace_is : is_text raw (start_of raw) rows trace
  pub wrote : written ≡ after start trace
  pub no_failure : failures ≡ count

-- why a simulation stopped after these rows: a write of the last one's text failed, or the next line is faulty
abbrev pub StopsBy : Raw → ℕ → List ℕ → List (List Tern) → List ℕ → List ℕ → ℕ → StimFault → Type 0
StopsBy raw count text rows trace done failures fault.Io =
    BeginsWithRows (length raw.inputs) text rows × IsBeginning done trace × (failures ≡ count + 1)
StopsBy raw count text rows trace done failures (fault.Char n) =
    HasFaultyLine (length raw.inputs) text rows (fault.Char n) × (done ≡ trace) × (failures ≡ count)
StopsBy raw count text rows trace done failures (fault.Length n) =
    HasFaultyLine (length raw.inputs) text rows (fault.Length n) × (done ≡ trace) × (failures ≡ count)
StopsBy raw count text rows trace done failures fault.Unfinished = ⊥
StopsBy raw count text rows trace done failures fault.Limit = ⊥
StopsBy raw count text rows trace done failures fault.Memory = ⊥

-- the text was read, and the simulation stopped on the way
pub record Stopped (is_text : RunText) (raw : Raw) (start : Option (List ℕ)) (count : ℕ) (text : List ℕ)
    (written : Option (List ℕ))
    (failures : ℕ) (f : StimFault) : Type 0 where
  pub rows : List (List Tern)
  pub trace : List ℕ
  pub done : List ℕ
  pub trace_is : is_text raw (start_of raw) rows trace
  pub wrote : written ≡ after start done
  pub why : StopsBy raw count text rows trace done failures f

-- whatever was read before, the simulation goes on by these bytes
abbrev pub SimulationGoesOn : {T : Type 0} → RunText → Recorded T → List ℕ → Simulation T → Simulation T
    → Option (List ℕ) → Option (List ℕ)
    → ℕ → ℕ → Type 0
SimulationGoesOn is_text recorded bytes s s' written written' failures failures' =
    (raw : Raw) (start : Option (List ℕ)) (count : ℕ) (text : List ℕ)
    → Running is_text recorded raw start count text s written failures
    → Running is_text recorded raw start count (text ++ bytes) s' written' failures'

-- whatever was read before, the simulation stops in these bytes
abbrev pub SimulationStops : {T : Type 0} → RunText → Recorded T → List ℕ → Simulation T → Option (List ℕ)
    → Option (List ℕ) → ℕ → ℕ
    → StimFault → Type 0
SimulationStops is_text recorded bytes s written written' failures failures' f =
    (raw : Raw) (start : Option (List ℕ)) (count : ℕ) (text : List ℕ)
    → Running is_text recorded raw start count text s written failures
    → Stopped is_text raw start count (text ++ bytes) written' failures' f

-- What was read and written before the end of the text.
pub record ReadSoFar {T : Type 0} (is_text : RunText) (recorded : Recorded T) (raw : Raw) (left left' : Option (List ℕ))
    (reads reads' : ℕ) (start : Option (List ℕ)) (count : ℕ) (s : Simulation T) (written : Option (List ℕ))
    (failures : ℕ)
    : Type 0 where
  pub text : List ℕ
  pub read : left ≡ before text left'
  pub no_failure : reads' ≡ reads
  pub running : Running is_text recorded raw start count text s written failures

-- what was read and written in all, as `Simulates` says it of traces
pub record Streamed (is_text : RunText) (raw : Raw) (old new : Streams) (written written' : Option (List ℕ))
    (result : Result ℕ StimFault) : Type 0 where
  pub text : List ℕ
  pub rows : List (List Tern)
  pub trace : List ℕ
  pub done : List ℕ
  pub read : old.left ≡ before text new.left
  pub trace_is : is_text raw (start_of raw) rows trace
  pub wrote : written' ≡ after written done
  pub ended : SimulationEnds (length raw.inputs) old new text rows trace done result
