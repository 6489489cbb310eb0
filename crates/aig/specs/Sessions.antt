-- How `shell` ends, where the bytes of its files are known. Which lines come, and which files are written, nobody can
-- say.
use Rattle.std.specs.Prelude.{◌≡◌, ◌⊎◌, ℕ, List, [], Bool, Option, IfSome, Result, Ok, Err}
use Rattle.aig_bytes.specs.Bytes.{IsBeginning}
use Rattle.aig_bytes.specs.Flow.{Flow}
use Rattle.aig_parts.specs.declared.raw.Raw.{Raw}
use Rattle.aig_bench.specs.BenchState.{CircuitAndRows}
use Rattle.aig_command.specs.Command.{IsFileOf}
use Rattle.aig_command.specs.Given.{IsGiven, ReadRun}
use Rattle.aig_command.specs.declared.given.Given.{Given}
use Rattle.aig_command.specs.declared.run_fault.RunFault.{RunFault}
use Rattle.aig_command.specs.declared.run_fault.RunFault.TheVariants as run_faults
use Rattle.aig_shell.specs.Conversation.{RefusesFiles, Talk}
use Rattle.aig_shell.specs.Files.{Call}
use Rattle.aig_shell.specs.Session.{BeginsAt, first_state}
use Rattle.aig_files.specs.declared.exit.Exit.{Exit}
use Rattle.aig_program.specs.Ends.{Ends, Seen, end_of}
use Rattle.aig_program.specs.GivenFiles.{given_left}

-- all that a session over a circuit and a run writes for some lines, with a prompt or without one
abbrev pub IsSomeTalk : Raw → Given (List ℕ) → List ℕ → Type 0
IsSomeTalk raw given text =
    (run : ReadRun) × (pair : CircuitAndRows) × IsGiven raw given run × BeginsAt raw run.start run.rows pair
    × (person : Bool) × (input : List ℕ) × (calls : List Call) × (quits : Bool)
    × Talk person (first_state raw run.property pair) input text calls quits

-- a beginning of such a text
abbrev pub BeginsSomeTalk : List ℕ → Given (List ℕ) → List ℕ → Type 0
BeginsSomeTalk file given bytes =
    (raw : Raw) × IsFileOf file raw × ((text : List ℕ) × IsSomeTalk raw given text × IsBeginning bytes text)

-- A session is written; or the circuit or the run is refused, and nothing is written; or a line is not read, and the
-- first bytes of a session are written.
abbrev pub HoldsSession : List ℕ → Given (List ℕ) → Result (Unit {0}) RunFault → List ℕ → Type 0
HoldsSession file given (Ok done) bytes = (raw : Raw) × IsFileOf file raw × IsSomeTalk raw given bytes
HoldsSession file given (Err fault) bytes = (RefusesFiles file given fault × (bytes ≡ []))
    ⊎ ((fault ≡ run_faults.Shell) × BeginsSomeTalk file given bytes)

-- `shell` ends so for the bytes of its files
abbrev pub EndsSession : {F : Type 0} → Flow Seen → (F → Option (List ℕ)) → F → Given F → Result (Unit {0}) Exit → Type 0
EndsSession out left circuit given result =
    IfSome (left circuit) (λ file. IfSome (given_left left given) (λ run. Ends out run_faults.Shell end_of
    (HoldsSession file run) result))
