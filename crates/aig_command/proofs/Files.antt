-- From what a command means for a circuit to what it means for the circuit's file.
use Rattle.std.proofs.Common.{◌≡◌, ◌≢◌, ℕ, ◌+◌, List, [], Result, Ok, Err, refl, sym, ap, subst, arith}
use Rattle.std.specs.Prelude.{Option, Some, false}
use Rattle.std.specs.Result.{IsErrAnd}
use Rattle.aig_parts.specs.declared.fault.Fault.{Fault}
use Rattle.aig_parts.specs.declared.fault.Fault.TheVariants as circuits
use Rattle.aig_parts.specs.declared.raw.Raw.{Raw}
use Rattle.aig_base.specs.Circuit.{IsCircuit}
use Rattle.aig_bytes.specs.Flow.{Flow, flow}
use Rattle.aig_format.specs.FileReading.{IsReading, Raises, FaultRaises}
use Rattle.aig_command.specs.declared.run_fault.RunFault.{RunFault}
use Rattle.aig_command.specs.declared.run_fault.RunFault.TheVariants as run_faults
use Rattle.aig_command.specs.Command.{IsFileOf, RefusesCircuit, OfCircuit, OfFile, OfReader, circuit_reads_failed}
use Rattle.aig_command.specs.Command.{CommandEnds, Text, EndsReading}
use Rattle.aig_command.proofs.Written.{got_none, reading_none, keeps_same, ends_map, reading_changed}

-- nothing is meant for a circuit with a circuit's fault
abbrev pub MeansNoFault : {T : Type 0} → (Raw → Result T RunFault → List ℕ → Type 0) → Raw → Type 0
MeansNoFault Means raw = (fault : Fault) (bytes : List ℕ) → Means raw (Err (run_faults.Circuit fault)) bytes → ⊥

module _ {T : Type 0} (Means : Raw → Result T RunFault → List ℕ → Type 0) (raw : Raw) (none : MeansNoFault Means raw) where
  pub of_file : (file : List ℕ) → IsFileOf file raw → (answer : Result T RunFault) (bytes : List ℕ) → Means raw answer bytes
      → OfFile file Means answer bytes
  of_file file f (Err (run_faults.Circuit fault)) bytes m = absurd (none fault bytes m)
  of_file file f answer bytes m = (raw, f, m)

  of_circuit : IsCircuit raw → (answer : Result T RunFault) (bytes : List ℕ) → Means raw answer bytes
      → OfCircuit Means answer bytes
  of_circuit is_circuit (Err (run_faults.Circuit fault)) bytes m = absurd (none fault bytes m)
  of_circuit is_circuit answer bytes m = (raw, is_circuit, m)

  -- no read of the circuit failed
  no_read : (answer : Result T RunFault) (bytes : List ℕ) → Means raw answer bytes → circuit_reads_failed answer ≡ 0
  no_read (Err (run_faults.Circuit fault)) bytes m = absurd (none fault bytes m)
  no_read answer bytes m = refl

  pub ends_of_file : {X : Type 0} (out : Flow X) (fault : RunFault) (file : List ℕ) → IsFileOf file raw → (r : Result T RunFault)
      → CommandEnds out fault (Means raw) r → CommandEnds out fault (OfFile file Means) r
  ends_of_file out fault file f r e = ends_map out fault (Means raw) (OfFile file Means) (of_file file f) r e

-- the answer is not that a read failed
abbrev pub IsReadWhole : Result Raw Fault → Type 0
IsReadWhole r = r ≢ Err circuits.Io

-- what reading the circuit from a reader promises
abbrev pub Answers : {Y : Type 0} → Flow Y → Result Raw Fault → Type 0
Answers circuit r = (bytes : List ℕ) → circuit.bytes circuit.old ≡ Some bytes → IsReadWhole r → IsReading bytes r

-- how many reads failed, by the fault of the circuit
circuit_reads : (T : Type 0) (fault : Fault) (old new : ℕ) → FaultRaises fault old new
    → new ≡ old + circuit_reads_failed {T = T} (Err (run_faults.Circuit fault))
circuit_reads T circuits.Io old new e = omega (arith, e)
circuit_reads T fault old new e = omega (arith, e)

module _ {Y T : Type 0} (circuit : Flow Y) (Means : Raw → Result T RunFault → List ℕ → Type 0) where
  -- the circuit was read
  pub of_reader : (raw : Raw) → MeansNoFault Means raw → Answers circuit (Ok raw) → IsCircuit raw
      → circuit.failures circuit.new ≡ circuit.failures circuit.old → (answer : Result T RunFault) (bytes : List ℕ)
      → Means raw answer bytes → OfReader circuit Means answer bytes
  of_reader raw none answers is_circuit count answer bytes m =
      record {
        of_file = λ file e ne.
            let reading = answers file e (λ is. let no : ⊥ = cc in no) in
            of_file Means raw none file (record { spelled = reading.found.1; circuit = is_circuit }) answer bytes m;
        of_circuit = of_circuit Means raw none is_circuit answer bytes m;
        count = omega (arith, count, no_read Means raw none answer bytes m);
      }

  -- the circuit is refused, or a read failed
  pub refused_reader : (fault : Fault) → Answers circuit (Err fault)
      → FaultRaises fault (circuit.failures circuit.old) (circuit.failures circuit.new)
      → OfReader circuit Means (Err (run_faults.Circuit fault)) []
  refused_reader fault answers count = record {
    of_file = λ file e ne. let io : fault ≢ circuits.Io = (λ is. ne (ap (λ f. Err (run_faults.Circuit f)) is)) in
        ((answers file e (λ is. io (let h : fault ≡ circuits.Io = cc in h)), io), refl);
    of_circuit = refl;
    count = circuit_reads T fault (circuit.failures circuit.old) (circuit.failures circuit.new) count;
  }

-- the file is refused, and nothing is written
pub file_refused : {X T : Type 0} (written : X → Option (List ℕ)) (failures : X → ℕ) (old : X) (part : RunFault)
    (Means : Raw → Result T RunFault → List ℕ → Type 0) (file : List ℕ) (fault : Fault) → RefusesCircuit file fault
    → CommandEnds (flow written failures old old) part (OfFile file Means) (Err (run_faults.Circuit fault))
file_refused written failures old part Means file fault h =
    CommandEnds.writes_all [] (h, refl) (got_none written failures old)

-- the same of a file that a reader holds
pub reader_refused : {Y X T : Type 0} (circuit : Flow Y) (written : X → Option (List ℕ)) (failures : X → ℕ) (old : X)
    (part : RunFault) (Means : Raw → Result T RunFault → List ℕ → Type 0) (fault : Fault) → Answers circuit (Err fault)
    → Raises {X = Raw} (Err fault) (circuit.failures circuit.old) (circuit.failures circuit.new)
    → CommandEnds (flow written failures old old) part (OfReader circuit Means) (Err (run_faults.Circuit fault))
reader_refused circuit written failures old part Means fault answers count =
    CommandEnds.writes_all [] (refused_reader circuit Means fault answers count) (got_none written failures old)

pub ends_of_reader : {Y X T : Type 0} (circuit : Flow Y) (out : Flow X) (part : RunFault)
    (Means : Raw → Result T RunFault → List ℕ → Type 0) (raw : Raw) → MeansNoFault Means raw → Answers circuit (Ok raw)
    → IsCircuit raw → Raises {X = Raw} (Ok raw) (circuit.failures circuit.old) (circuit.failures circuit.new)
    → (r : Result T RunFault) → CommandEnds out part (Means raw) r → CommandEnds out part (OfReader circuit Means) r
ends_of_reader circuit out part Means raw none answers is_circuit count r e =
    ends_map out part (Means raw) (OfReader circuit Means) (of_reader circuit Means raw none answers is_circuit count) r e

-- the same of a command that reads a text meanwhile
pub reading_refused : {Z Y X T : Type 0} (circuit : Flow Z) (left : Y → Option (List ℕ)) (reads : Y → ℕ) (reader : Y)
    (written : X → Option (List ℕ)) (failures : X → ℕ) (old : X) (part : RunFault)
    (Means : Text → Raw → Result T RunFault → List ℕ → Type 0) (fault : Fault)
    → ◌≢◌ {A = Result T RunFault} (Err (run_faults.Circuit fault)) (Err part) → Answers circuit (Err fault)
    → Raises {X = Raw} (Err fault) (circuit.failures circuit.old) (circuit.failures circuit.new)
    → EndsReading (flow left reads reader reader) (flow written failures old old) part (λ text. OfReader circuit (Means text))
    (Err (run_faults.Circuit fault))
reading_refused circuit left reads reader written failures old part Means fault ne answers count =
    reading_none left reads reader written failures old part (λ text. OfReader circuit (Means text)) (run_faults.Circuit fault) ne
    (refused_reader circuit (Means (record { bytes = []; is_whole = false })) fault answers count)

pub reading_of_reader : {Z Y X T : Type 0} (circuit : Flow Z) (reader : Flow Y) (out : Flow X) (part : RunFault)
    (Means : Text → Raw → Result T RunFault → List ℕ → Type 0) (raw : Raw) → ((text : Text) → MeansNoFault (Means text) raw)
    → Answers circuit (Ok raw) → IsCircuit raw
    → Raises {X = Raw} (Ok raw) (circuit.failures circuit.old) (circuit.failures circuit.new)
    → (r : Result T RunFault) → EndsReading reader out part (λ text. Means text raw) r
    → EndsReading reader out part (λ text. OfReader circuit (Means text)) r
reading_of_reader circuit reader out part Means raw none answers is_circuit count r e =
    reading_changed reader out (λ text. Means text raw) (λ text. OfReader circuit (Means text)) (λ r. r) keeps_same
    (λ text. of_reader circuit (Means text) raw (none text) answers is_circuit count) part r e

-- what holds of the error holds of the answer that is it
pub answered : {T E : Type 0} (r : Result T E) (fault : E) (P : Result T E → Type 0) → IsErrAnd r (λ f. f ≡ fault) → P (Err fault)
    → P r
answered (Ok value) fault P is p = absurd is
answered (Err why) fault P is p = subst (λ f. P (Err f)) (sym is) p

-- what holds of a fault holds of the error that reports it
