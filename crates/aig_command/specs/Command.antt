-- A command from bytes to bytes: which bytes it writes for a circuit's file, and how it ends.
-- Examples: `aag 0 0 0 0 1/`: its counts do not go together; a rejected circuit: its fault, and no bytes; `confirmed/`
-- is written and `Confirmed` returned; to a full device `conf` is written and `Output` returned; a read of the stimulus
-- `11/1` fails after 4 bytes: the trace line of `11` is written.
use Rattle.std.specs.Prelude.{◌≡◌, ◌≢◌, ℕ, ◌+◌, ◌<◌, ◌≤◌, List, Bool, IsTrue, Result, Err, [], Some, Ok, OnOk, length}
use Rattle.aig_parts.specs.declared.raw.Raw.{Raw}
use Rattle.aig_parts.specs.declared.fault.Fault.{Fault}
use Rattle.aig_parts.specs.declared.fault.Fault.TheVariants as circuits
use Rattle.aig_bytes.specs.Bytes.{before, after, IsAtEnd, IsBeginning}
use Rattle.aig_bytes.specs.Flow.{Flow}
use Rattle.aig_base.specs.Circuit.{IsCircuit}
use Rattle.aig_format.specs.Spells.{IsTextOf}
use Rattle.aig_format.specs.FileReading.{IsReading}
use Rattle.aig_parts.specs.declared.ternary.Tern.{Tern}
use Rattle.aig_parts.specs.Limits.{frame_limit}
use Rattle.aig_sim.specs.StimulusText.{HasFaultyLine}
use Rattle.aig_sim.specs.declared.stimulus.fault.StimFault.{StimFault}
use Rattle.aig_sim.specs.declared.stimulus.fault.StimFault.TheVariants as stimuli
use Rattle.aig_command.specs.declared.run_fault.RunFault.{RunFault}
use Rattle.aig_command.specs.declared.run_fault.RunFault.TheVariants as run_faults

-- the bytes are a file of this circuit
pub record IsFileOf (bytes : List ℕ) (raw : Raw) : Type 0 where
  pub spelled : IsTextOf bytes raw
  pub circuit : IsCircuit raw

-- why a circuit file is refused; no read fails
abbrev pub RefusesCircuit : List ℕ → Fault → Type 0
RefusesCircuit bytes fault = IsReading bytes (Err fault) × (fault ≢ circuits.Io)

-- why a stimulus of a width is refused: its first faulty line
abbrev pub RefusesStimulus : ℕ → List ℕ → StimFault → Type 0
RefusesStimulus width text fault =
    fault ≢ stimuli.Memory → (rows : List (List Tern)) × (length rows ≤ frame_limit)
    × HasFaultyLine width text rows fault

-- Which bytes a command writes for a circuit file, with which answer: none where the file is refused, else what `Means`
-- says of its circuit.
abbrev pub OfFile : {T : Type 0} → List ℕ → (Raw → Result T RunFault → List ℕ → Type 0) → Result T RunFault → List ℕ
    → Type 0
OfFile file Means (Err (run_faults.Circuit fault)) bytes = RefusesCircuit file fault × (bytes ≡ [])
OfFile file Means answer bytes = (raw : Raw) × IsFileOf file raw × Means raw answer bytes

-- The same where nobody says what the file is: none where it is refused, else what `Means` says of some circuit.
abbrev pub OfCircuit : {T : Type 0} → (Raw → Result T RunFault → List ℕ → Type 0) → Result T RunFault → List ℕ → Type 0
OfCircuit Means (Err (run_faults.Circuit fault)) bytes = bytes ≡ []
OfCircuit Means answer bytes = (raw : Raw) × IsCircuit raw × Means raw answer bytes

-- how many reads of the circuit failed, by the answer
abbrev pub circuit_reads_failed : {T : Type 0} → Result T RunFault → ℕ
circuit_reads_failed (Ok done) = 0
circuit_reads_failed (Err (run_faults.Circuit circuits.Io)) = 1
circuit_reads_failed (Err fault) = 0

-- Which bytes it writes for the circuit file that a reader holds, with which answer. The reader may not state what it
-- holds. A read may fail, one, and nothing is written then.
pub record OfReader {Y T : Type 0} (circuit : Flow Y) (Means : Raw → Result T RunFault → List ℕ → Type 0)
    (answer : Result T RunFault) (bytes : List ℕ) : Type 0 where
  pub of_file : (file : List ℕ) → circuit.bytes circuit.old ≡ Some file → answer ≢ Err (run_faults.Circuit circuits.Io)
      → OfFile file Means answer bytes
  pub of_circuit : OfCircuit Means answer bytes
  pub count : circuit.failures circuit.new ≡ circuit.failures circuit.old + circuit_reads_failed answer

-- the writer got these bytes, and no call failed
pub record Got {X : Type 0} (out : Flow X) (bytes : List ℕ) : Type 0 where
  pub got : out.bytes out.new ≡ after (out.bytes out.old) bytes
  pub count : out.failures out.new ≡ out.failures out.old

-- a write or a flush failed, and the writer got a beginning of these bytes
pub record BreaksOff {X : Type 0} (out : Flow X) (bytes : List ℕ) : Type 0 where
  pub done : List ℕ
  pub beginning : IsBeginning done bytes
  pub got : out.bytes out.new ≡ after (out.bytes out.old) done
  pub count : out.failures out.old < out.failures out.new

-- How a command ends, where `Means` says which bytes are written with which answer: it writes all of them; or a write
-- fails, the answer is `fault`, and a prefix is written of the bytes of some answer.
pub data CommandEnds {X T : Type 0} (out : Flow X) (fault : RunFault) (Means : Result T RunFault → List ℕ → Type 0)
    : Result T RunFault → Type 0 where
  writes_all : {answer : Result T RunFault} (bytes : List ℕ) → Means answer bytes → Got out bytes
      → CommandEnds out fault Means answer
  breaks_off : (answer : Result T RunFault) (bytes : List ℕ) → Means answer bytes → BreaksOff out bytes
      → CommandEnds out fault Means (Err fault)

-- bytes of a text from its beginning, and whether they are all of it
pub record Text : Type 0 where
  pub bytes : List ℕ
  pub is_whole : Bool

-- the reader gave these bytes of its text, and so many reads failed
pub record Gave {Y : Type 0} (reader : Flow Y) (text : Text) (failed : ℕ) : Type 0 where
  pub gave : reader.bytes reader.old ≡ before text.bytes (reader.bytes reader.new)
  pub whole : IsTrue text.is_whole → IsAtEnd (reader.bytes reader.new)
  pub count : reader.failures reader.new ≡ reader.failures reader.old + failed

-- What was read has all its bytes written, and so many reads failed. An answer that all went well is one for a whole
-- text.
pub record WritesAll {Y X T : Type 0} (reader : Flow Y) (out : Flow X) (failed : ℕ)
    (Means : Text → Result T RunFault → List ℕ → Type 0) (answer : Result T RunFault) : Type 0 where
  pub text : Text
  pub bytes : List ℕ
  pub gave : Gave reader text failed
  pub means : Means text answer bytes
  pub whole : OnOk answer (IsTrue text.is_whole)
  pub got : Got out bytes

-- A write failed, and a beginning is written of the bytes for a beginning of what was read, with some answer.
pub record WritesPart {Y X T : Type 0} (reader : Flow Y) (out : Flow X)
    (Means : Text → Result T RunFault → List ℕ → Type 0) : Type 0 where
  pub text : Text
  pub failed : ℕ
  pub few : failed ≤ 1
  pub gave : Gave reader text failed
  pub part : Text
  pub beginning : IsBeginning part.bytes text.bytes
  pub whole : IsTrue part.is_whole → part ≡ text
  pub answer : Result T RunFault
  pub bytes : List ℕ
  pub means : Means part answer bytes
  pub breaks_off : BreaksOff out bytes

-- How a command ends that reads a text meanwhile, where `Means` says which bytes are written for what was read, and
-- with which answer: no call fails, and it writes all of them; or the answer is `fault`, as a read fails and it writes
-- all of them for what was read before, or as a write fails.
pub data EndsReading {Y X T : Type 0} (reader : Flow Y) (out : Flow X) (fault : RunFault)
    (Means : Text → Result T RunFault → List ℕ → Type 0) : Result T RunFault → Type 0 where
  writes_all : {answer : Result T RunFault} → answer ≢ Err fault → WritesAll reader out 0 Means answer
      → EndsReading reader out fault Means answer
  stops_reading : WritesAll reader out 1 Means (Err fault) → EndsReading reader out fault Means (Err fault)
  breaks_off : WritesPart reader out Means → EndsReading reader out fault Means (Err fault)
