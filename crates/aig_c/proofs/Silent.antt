-- Commands that write nothing if they end with a fault.
use Rattle.std.proofs.Common.{◌≡◌, inl, inr, ℕ, List, [], Result, Err, refl}
use Rattle.std.specs.Prelude.{Option, None, Some}
use Rattle.aig_bytes.specs.Flow.{Flow}
use Rattle.aig_cnf.specs.Query.{depth, induction, subject}
use Rattle.aig_cnf.specs.declared.heading.Heading.{Heading}
use Rattle.aig_cnf.specs.declared.heading.Heading.TheVariants as headings
use Rattle.aig_cnf.specs.declared.query.Query.{Query}
use Rattle.aig_format.specs.declared.reader.header.Format.{Format}
use Rattle.aig_parts.specs.declared.raw.Raw.{Raw}
use Rattle.aig_parts.specs.declared.ternary.Tern.{Tern}
use Rattle.aig_sim.specs.declared.witness.reach_fault.ReachFault.TheVariants as reaches
use Rattle.aig_command.specs.Command.{OfCircuit, OfFile, OfReader}
use Rattle.aig_command.specs.declared.run_fault.RunFault.{RunFault}
use Rattle.aig_command.specs.declared.run_fault.RunFault.TheVariants as run_faults
use Rattle.aig_commands.specs.Alive.{WritesAlive}
use Rattle.aig_commands.specs.AliveWitness.{WritesAliveModel, WritesKept}
use Rattle.aig_commands.specs.Certified.{OfCertified}
use Rattle.aig_commands.specs.Check.{Checks, RefusesWitness}
use Rattle.aig_commands.specs.Cnf.{WritesAsked}
use Rattle.aig_commands.specs.Cut.{WritesCut}
use Rattle.aig_commands.specs.Info.{ListsFacts}
use Rattle.aig_commands.specs.ModelWitness.{WritesModel, WritesReached, names, no_formula, no_model, rows_named, start_named}
use Rattle.aig_commands.specs.Names.{ListsNames}
use Rattle.aig_commands.specs.Questions.{Asked, NamesFor, NamesQuestion, OfSubject, RefutesFor, RefutesQuestion}
use Rattle.aig_commands.specs.Questions.{WritesFor, WritesQuestion, certificate_of, heading_of}
use Rattle.aig_commands.specs.Reduce.{Reduces}
use Rattle.aig_commands.specs.Toaig.{Converts}
use Rattle.aig_commands.specs.Unroll.{Unrolls}
use Rattle.aig_commands.specs.Wave.{DumpsRun}
use Rattle.aig_commands.specs.Witness.{WritesWitness}
use Rattle.aig_commands.specs.declared.certified.Purpose.{Purpose}
use Rattle.aig_commands.specs.declared.certified.Purpose.TheVariants as purposes
use Rattle.aig_commands.specs.declared.question.Question.TheVariants as questions

-- whatever the fault
abbrev pub Silent : {T : Type 0} → (Result T RunFault → List ℕ → Type 0) → Type 0
Silent Means = (fault : RunFault) (bytes : List ℕ) → Means (Err fault) bytes → bytes ≡ []

-- ---- for a file, a reader and a certificate, from what the command means for a circuit

module _ {T : Type 0} (Means : Raw → Result T RunFault → List ℕ → Type 0) (silent : (raw : Raw) → Silent (Means raw)) where
  pub of_file : (file : List ℕ) → Silent (OfFile file Means)
  of_file file (run_faults.Circuit fault) bytes m = m.1
  of_file file fault bytes m = silent m.0 fault bytes m.2

  of_circuit : Silent (OfCircuit Means)
  of_circuit (run_faults.Circuit fault) bytes m = m
  of_circuit fault bytes m = silent m.0 fault bytes m.2

  pub of_reader : {Y : Type 0} (circuit : Flow Y) → Silent (OfReader circuit Means)
  of_reader circuit fault bytes m = of_circuit fault bytes m.of_circuit

module _ (Means : Raw → Result (Unit {0}) RunFault → List ℕ → Type 0) (silent : (raw : Raw) → Silent (Means raw)) where
  pub of_certified : (purpose : Purpose) (file : List ℕ) (p : ℕ) (certificate : List ℕ)
      → Silent (OfCertified purpose file p certificate Means)
  of_certified purpose file p certificate fault bytes (inl m) = m.3
  of_certified purpose file p certificate fault bytes (inr m) = silent m.0 fault bytes m.2

  of_subject : (by : Option (List ℕ × ℕ)) (file : List ℕ) → Silent (OfSubject by file Means)
  of_subject None file = of_file Means silent file
  of_subject (Some (claims, p)) file = of_certified purposes.Formula file p claims

-- ---- circuits

pub converts : (to : Format) (raw : Raw) → Silent (Converts to raw)
converts to raw run_faults.Memory bytes m = m.1
converts to raw fault bytes m = absurd m

pub cuts : (text : List ℕ) (to : Format) (raw : Raw) → Silent (WritesCut text to raw)
cuts text to raw (run_faults.Cut fault) bytes m = m.1
cuts text to raw run_faults.Memory bytes m = m.2.1
cuts text to raw fault bytes m = absurd m.2

pub facts : (file : Option (List ℕ)) (raw : Raw) → Silent (ListsFacts file raw)
facts file raw run_faults.Memory bytes m = m
facts file raw fault bytes m = absurd m

pub entries : (raw : Raw) → Silent (ListsNames raw)
entries raw fault bytes m = absurd m

pub unrolls : (k : ℕ) (to : Format) (raw : Raw) → Silent (Unrolls k to raw)
unrolls k to raw (run_faults.Unroll fault) bytes m = m.1
unrolls k to raw run_faults.Memory bytes m = m
unrolls k to raw fault bytes m = absurd m

-- ---- runs

pub refuses_witness : (text : List ℕ) (raw : Raw) (fault : RunFault) (bytes : List ℕ) → RefusesWitness text raw fault bytes → bytes ≡ []
refuses_witness text raw (run_faults.Witness fault) bytes m = m.1
refuses_witness text raw fault bytes m = absurd m

pub checks : (text : List ℕ) (raw : Raw) → Silent (Checks text raw)
checks text raw fault bytes m = refuses_witness text raw fault bytes m

pub dumps : (text : List ℕ) (raw : Raw) → Silent (DumpsRun text raw)
dumps text raw fault bytes m = refuses_witness text raw fault bytes m

pub reduces : (text : List ℕ) (raw : Raw) → Silent (Reduces text raw)
reduces text raw fault bytes m = m.1

pub witness : (asked : Option ℕ) (rows : List ℕ) (raw : Raw) → Silent (WritesWitness asked rows raw)
witness asked rows raw (run_faults.Reach reaches.Property) bytes m = m.1
witness asked rows raw (run_faults.Stimulus fault) bytes m = m.2
witness asked rows raw (run_faults.Reach reaches.NoRun) bytes m = m.2
witness asked rows raw (run_faults.Reach reaches.Memory) bytes m = m
witness asked rows raw fault bytes m = absurd m

-- ---- questions

formula : (asked : Heading) (query : Query) (raw : Raw) → Silent (WritesAsked asked query raw)
formula asked query raw (run_faults.Cnf fault) bytes m = m.1
formula asked query raw fault bytes m = absurd m

alive : (k : ℕ) (raw : Raw) → Silent (WritesAlive k raw)
alive k raw (run_faults.Cnf fault) bytes m = m.1
alive k raw fault bytes m = absurd m

writes_for : (asked : Heading) (raw : Raw) → Silent (WritesFor asked raw)
writes_for (headings.Runs query) raw = formula (headings.Runs query) query raw
writes_for (headings.Alive k) raw = alive k raw
writes_for (headings.Certified p) raw = formula (headings.Certified p) (induction 1 0) raw

pub writes : (asked : Asked) (file : List ℕ) → Silent (WritesQuestion asked file)
writes asked file = of_subject (WritesFor (heading_of asked)) (writes_for (heading_of asked)) (certificate_of asked) file

reached : (raw : Raw) (p : ℕ) (start : List Tern) (rows : List (List Tern)) → Silent (WritesReached raw p start rows)
reached raw p start rows (run_faults.Reach reaches.NoRun) bytes m = m.1
reached raw p start rows (run_faults.Reach reaches.Memory) bytes m = m
reached raw p start rows fault bytes m = absurd m

model : (query : Query) (text : List ℕ) (raw : Raw) → Silent (WritesModel query text raw)
model query text raw fault bytes (no_formula why refused) = refl
model query text raw fault bytes (no_model read why has is refused) = refl
model query text raw fault bytes (names read values answer bytes' has is of_model m) =
    reached (subject query.goal raw) query.property (start_named raw read (depth query) values)
    (rows_named raw read (depth query) values) fault bytes m

kept : (raw : Raw) (k : ℕ) (start : List Tern) (rows : List (List Tern)) → Silent (WritesKept raw k start rows)
kept raw k start rows (run_faults.Reach reaches.NoRun) bytes m = m.1
kept raw k start rows (run_faults.Reach reaches.Memory) bytes m = m
kept raw k start rows fault bytes m = absurd m

alive_model : (k : ℕ) (text : List ℕ) (raw : Raw) → Silent (WritesAliveModel k text raw)
alive_model k text raw fault bytes (WritesAliveModel.no_formula why refused) = refl
alive_model k text raw fault bytes (WritesAliveModel.no_model read why has is refused) = refl
alive_model k text raw fault bytes (WritesAliveModel.names read values answer bytes' has is of_model m) =
    kept raw k (start_named raw read k values) (rows_named raw read k values) fault bytes m

names_for : (asked : Heading) (text : List ℕ) (raw : Raw) → Silent (NamesFor asked text raw)
names_for (headings.Runs query) text raw = model query text raw
names_for (headings.Alive k) text raw = alive_model k text raw
names_for (headings.Certified p) text raw = model (induction 1 0) text raw

pub names_run : (asked : Asked) (text file : List ℕ) → Silent (NamesQuestion asked text file)
names_run asked text file =
    of_subject (NamesFor (heading_of asked) text) (names_for (heading_of asked) text) (certificate_of asked) file

refutes_for : (asked : Asked) (raw : Raw) → Silent (RefutesFor asked raw)
refutes_for (questions.Within k p) raw = λ fault bytes m. m.1
refutes_for (questions.Step k p) raw = λ fault bytes m. m.1
refutes_for (questions.Alive k) raw = λ fault bytes m. m.1
refutes_for (questions.Certified claims p) raw = λ fault bytes m. m.1

pub refutes : (asked : Asked) (file : List ℕ) → Silent (RefutesQuestion asked file)
refutes asked file = of_subject (RefutesFor asked) (refutes_for asked) (certificate_of asked) file
