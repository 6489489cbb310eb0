-- How far the replay of a witness has come, whatever is written of its frames.
-- Example: after frame 0 of `1/b0//x/./` the rest is `./`.
use Rattle.std.specs.Prelude.{◌≡◌, ℕ, suc, ◌≤◌, List, [], ◌++◌, length, take, drop, IfOk, Option, Result, OnOk}
use Rattle.aig_parts.specs.declared.ternary.Tern.{Tern}
use Rattle.aig_parts.specs.declared.raw.Raw.{Raw}
use Rattle.aig_bytes.specs.Bytes.{after, Writes}
use Rattle.aig_base.specs.Circuit.{IsCircuit}
use Rattle.aig_base.specs.Value.{Fits}
use Rattle.aig_sim.specs.state.Checking.{ArePartsOf, SpellsFrames}
use Rattle.aig_values.specs.state.Frame.{AreStates, HoldsAll}
use Rattle.aig_sim.specs.state.Machine.{Machine}
use Rattle.aig_sim.specs.state.Running.{RunText, Recorded}
use Rattle.aig_bytes.specs.Flow.{Flow}
use Rattle.aig_sim.specs.declared.witness.replay_fault.ReplayFault.{ReplayFault}
use Rattle.aig_sim.specs.declared.witness.verdict.Verdict.{Verdict}
use Rattle.aig_sim.specs.Replayed.{Replays}
use Rattle.aig_sim.specs.Verdict.{ShowsVerdict}
use Rattle.aig_sim.specs.declared.witness.text.WitnessParts.{WitnessParts}
use Rattle.aig_sim.specs.WitnessText.{IsAdmitted, Witness, witness_rows_text}

-- before the first frame of the witness: the latches' values, and the text of so many rows
pub record BeginsRun (raw : Raw) (w : Witness) (states : List Tern) (rows : List ℕ) (frames : ℕ) : Type 0 where
  pub circuit : IsCircuit raw
  pub latches : length w.start ≡ length raw.latches
  pub states_are : states ≡ w.start
  pub rows_are : SpellsFrames (length raw.inputs) rows w.rows
  pub frames_are : frames ≡ length w.rows

-- nothing was written of any frame
pub record NoneReported {T : Type 0} (is_text : RunText) (recorded : Recorded T) (raw : Raw) (w : Witness)
    (recorder : T)
    : Type 0 where
  pub no_text : is_text raw w.start [] []
  pub none_recorded : recorded recorder raw w.start []

-- After t frames of the witness: the rest of its text, the latches' values and the cells, and what was written of these
-- frames.
pub record HasReplayed {T : Type 0} (is_text : RunText) (recorded : Recorded T) (raw : Raw) (w : Witness) (t : ℕ)
    (rest : List ℕ) (states cells : List Tern) (recorder : T) (start : Option (List ℕ)) (count : ℕ)
    (written : Option (List ℕ)) (failures : ℕ) : Type 0 where
  pub rest_is : rest ≡ witness_rows_text (drop t w.rows)
  pub states_are : AreStates raw w.start (take t w.rows) t states
  pub cells_are : (u : ℕ) → t ≡ suc u → HoldsAll raw w.start w.rows u cells
  pub recorded_are : recorded recorder raw w.start (take t w.rows)
  pub reported : List ℕ
  pub reported_is : is_text raw w.start (take t w.rows) reported
  pub wrote : written ≡ after start reported
  pub no_failure : failures ≡ count

-- the text of the first frames was written, of all of them where no write failed
pub record WritesFrames {X E : Type 0} (is_text : RunText) (raw : Raw) (w : Witness) (written : X → Option (List ℕ))
    (failures : X → ℕ) (old new : X) (r : Result (Unit {0}) E) : Type 0 where
  pub frames : ℕ
  pub few : frames ≤ length w.rows
  pub reported : List ℕ
  pub reported_is : is_text raw w.start (take frames w.rows) reported
  pub writes : Writes written failures old new reported r
  pub whole : OnOk r (frames ≡ length w.rows)

-- all frames of the witness were recorded, and these are the cells at the last of them
pub record RecordsRun {T : Type 0} (recorded : Recorded T) (raw : Raw) (w : Witness) (recorder : T) (cells : List Tern)
    : Type 0 where
  pub recorded_are : recorded recorder raw w.start w.rows
  pub cells_are : (u : ℕ) → length w.rows ≡ suc u → HoldsAll raw w.start w.rows u cells

-- What simulating all frames of the witness did: the text of the first ones was written; where no write failed, all were
-- recorded.
pub record ReplaysFrames {T X E : Type 0} (is_text : RunText) (recorded : Recorded T) (raw : Raw) (w : Witness)
    (written : X → Option (List ℕ)) (failures : X → ℕ) (old new : X) (recorder : T) (machine : Machine)
    (r : Result (Unit {0}) E) : Type 0 where
  pub text : WritesFrames is_text raw w written failures old new r
  pub circuit : machine.circuit ≡ raw
  pub run : OnOk r (RecordsRun recorded raw w recorder machine.cells)

-- what was written is the text of the run, or a beginning of it
pub record WritesRun {X E : Type 0} (is_text : RunText) (raw : Raw) (w : Witness) (written : X → Option (List ℕ))
    (failures : X → ℕ) (old new : X) (r : Result (Unit {0}) E) : Type 0 where
  pub reported : List ℕ
  pub reported_is : is_text raw w.start w.rows reported
  pub writes : Writes written failures old new reported r

-- a text of the first frames of a run that fits the circuit is a beginning of one of all frames
abbrev pub GoesOnAlong : RunText → Raw → Witness → Type 0
GoesOnAlong is_text raw w = IsCircuit raw → Fits raw w.start w.rows → (t : ℕ) (text : List ℕ) → t ≤ length w.rows
    → is_text raw w.start (take t w.rows) text → (rest : List ℕ) × is_text raw w.start w.rows (text ++ rest)

-- before the first frame of a witness that is admitted: its parts, and the latches' values
pub record IsReady (raw : Raw) (w : Witness) (parts : WitnessParts) (states : List Tern) : Type 0 where
  pub circuit : IsCircuit raw
  pub parts_are : ArePartsOf raw parts w
  pub admitted : IsAdmitted raw w
  pub states_are : states ≡ w.start

-- the text of the run of a witness was written, and what is returned is the verdict that it shows
pub record ReplaysAndShows {X : Type 0} (is_text : RunText) (raw : Raw) (spelled : List ℕ) (out : Flow X)
    (r : Result Verdict ReplayFault) : Type 0 where
  pub text : Replays is_text raw spelled out r
  pub verdict : IfOk r (ShowsVerdict raw spelled)
