-- How the program takes a command's answer, and which bytes its writer gets. That this writer is standard output, and
-- what reaches that, no clause says.
-- Examples: `bench` with a faulty stimulus ends with the stimulus's fault; `not bad` ends as `NotConfirmed`.
use Rattle.std.specs.Prelude.{◌≡◌, ◌⊎◌, ℕ, List, [], IsTrue, Option, None, Some, Result, Ok, Err}
use Rattle.aig_bytes.specs.Bytes.{IsBeginning}
use Rattle.aig_bytes.specs.Flow.{Flow, flow}
use Rattle.aig_parts.specs.declared.fault.Fault.TheVariants as circuits
use Rattle.aig_parts.specs.declared.raw.Raw.{Raw}
use Rattle.aig_sim.specs.declared.witness.breaks.Break.{Break}
use Rattle.aig_sim.specs.declared.witness.verdict.Verdict.{Verdict}
use Rattle.aig_sim.specs.declared.witness.verdict.Verdict.TheVariants.{Initial, Constraint, NotBad, Confirmed}
use Rattle.aig_base.specs.declared.select.PropertySection.{PropertySection}
use Rattle.aig_format.specs.declared.reader.header.Format.{Format}
use Rattle.aig_command.specs.Command.{BreaksOff, CommandEnds, Got, OfFile, Text}
use Rattle.aig_command.specs.Flushed.{IsFlushed}
use Rattle.aig_command.specs.declared.run_fault.RunFault.{RunFault}
use Rattle.aig_command.specs.declared.run_fault.RunFault.TheVariants as run_faults
use Rattle.aig_files.specs.declared.exit.Exit.{Exit}
use Rattle.aig_files.specs.declared.exit.Exit.TheVariants as exits
use Rattle.aig_files.specs.declared.part.Part.{Part}
use Rattle.aig_files.specs.declared.part.Part.TheVariants as parts
use Rattle.aig_commands.specs.Check.{Checks, ChecksAndTraces, OfProperty}
use Rattle.aig_commands.specs.Select.{SelectsNamed}
use Rattle.aig_commands.specs.declared.check.Shown.{Shown}
use Rattle.aig_commands.specs.declared.select.NamedSelection.{NamedSelection}

-- what is seen of a writer: the bytes that it got, where it says which, and how many calls failed
pub record Seen : Type 0 where
  pub bytes : Option (List ℕ)
  pub failures : ℕ

-- what is seen of it between two moments
abbrev pub seen : {X : Type 0} → (X → Option (List ℕ)) → (X → ℕ) → X → X → Flow Seen
seen written failures old new =
    flow (λ s. s.bytes) (λ s. s.failures) (record { bytes = written old; failures = failures old })
    (record { bytes = written new; failures = failures new })

-- these bytes were read up to here: a beginning of them, and all where that is the whole text
pub record IsReadOf (all : List ℕ) (text : Text) : Type 0 where
  pub beginning : IsBeginning text.bytes all
  pub whole : IsTrue text.is_whole → text.bytes ≡ all

-- what a command means that reads these bytes meanwhile: what it means for those that it has read
abbrev pub OfText : {T : Type 0} → List ℕ → (Text → Result T RunFault → List ℕ → Type 0) → Result T RunFault → List ℕ
    → Type 0
OfText all Means answer bytes = (text : Text) × IsReadOf all text × Means text answer bytes

-- how the program ends for an answer
abbrev pub end_of : {T : Type 0} → Result T RunFault → Result (Unit {0}) Exit
end_of (Ok value) = Ok tt
end_of (Err fault) = Err (exits.Run fault)

-- the same where the circuit is streamed: one that was not read to its end is reported as a file is
abbrev pub end_of_streamed : {T : Type 0} → Result T RunFault → Result (Unit {0}) Exit
end_of_streamed (Err (run_faults.Circuit circuits.Io)) = Err (exits.Unread parts.Circuit)
end_of_streamed answer = end_of answer

-- How it ends for a verdict: as a success for `confirmed` alone.
abbrev pub end_of_verdict : Result Verdict RunFault → Result (Unit {0}) Exit
end_of_verdict (Ok (Initial latch)) = Err exits.NotConfirmed
end_of_verdict (Ok (Constraint frame constraint)) = Err exits.NotConfirmed
end_of_verdict (Ok NotBad) = Err exits.NotConfirmed
end_of_verdict (Ok Confirmed) = Ok tt
end_of_verdict (Err fault) = Err (exits.Run fault)

-- How it ends for a run that should keep its constraints: as a success if nothing breaks it.
abbrev pub end_of_alive : Result (Option Break) RunFault → Result (Unit {0}) Exit
end_of_alive (Ok None) = Ok tt
end_of_alive (Ok (Some reason)) = Err exits.NotConfirmed
end_of_alive (Err fault) = Err (exits.Run fault)

-- how it ends for an answer whose writer is flushed then: where that fails, for this fault
abbrev pub EndsFlushed : {X T : Type 0} → Flow X → RunFault → (Result T RunFault → Result (Unit {0}) Exit)
    → Result T RunFault → Result (Unit {0}) Exit → Type 0
EndsFlushed {T = T} out fault end answer result =
    (told : Result T RunFault) × IsFlushed out fault answer told × (result ≡ end told)

-- the command has a good answer, and the writer got the bytes
abbrev pub Completes : {X T : Type 0} → Flow X → (Result T RunFault → List ℕ → Type 0) → Type 0
Completes {T = T} out Means = (value : T) × (bytes : List ℕ) × Means (Ok value) bytes × Got out bytes

-- a file was not read to its end, or memory for it was missing
abbrev pub IsUnread : Exit → Type 0
IsUnread exit = ((part : Part) × (exit ≡ exits.Unread part)) ⊎ (exit ≡ exits.Run run_faults.Memory)

-- a file that an option names was not written, or memory for it was missing
abbrev pub IsUnwritten : Exit → Type 0
IsUnwritten exit = (exit ≡ exits.Run run_faults.Output) ⊎ (exit ≡ exits.Run run_faults.Memory)

-- A command ends as its contract means, and its writer gets the bytes; or the first write or flush fails; or a file was
-- not read, and the writer gets nothing.
pub data Ends {T : Type 0} (out : Flow Seen) (fault : RunFault) (end : Result T RunFault → Result (Unit {0}) Exit)
    (Means : Result T RunFault → List ℕ → Type 0)
    (result : Result (Unit {0}) Exit) : Type 0 where
  as_meant : (answer : Result T RunFault) → CommandEnds out fault Means answer → result ≡ end answer
      → Ends out fault end Means result
  unwritten : BreaksOff out [] → result ≡ end (Err fault) → Ends out fault end Means result
  unread : (exit : Exit) → result ≡ Err exit → IsUnread exit → Got out [] → Ends out fault end Means result

-- It ends so; or a file that an option names was not written, before the command or after it.
pub data EndsKeeping {T : Type 0} (out : Flow Seen) (fault : RunFault) (Means : Result T RunFault → List ℕ → Type 0)
    (result : Result (Unit {0}) Exit) : Type 0 where
  ends : Ends out fault end_of Means result → EndsKeeping out fault Means result
  not_begun : (exit : Exit) → result ≡ Err exit → IsUnwritten exit → Got out [] → EndsKeeping out fault Means result
  not_kept : (exit : Exit) → result ≡ Err exit → IsUnwritten exit → Completes out Means
      → EndsKeeping out fault Means result

-- `select --names` ends as it means for these positions and the text of names, and the bytes of the circuit's file
abbrev pub EndsSelectingNamed : Flow Seen → PropertySection → PropertySection → List ℕ → List ℕ → Format → List ℕ
    → Result (Unit {0}) Exit
    → Type 0
EndsSelectingNamed out from into positions text to file result =
    Ends out run_faults.Output end_of (λ answer bytes. (s : NamedSelection) × (s.from ≡ from) × (s.into ≡ into)
    × (s.positions.now ≡ positions)
    × (s.names.now ≡ text) × OfFile file (SelectsNamed s to) answer bytes) result

-- what `check` means, with a trace that shows this or with none, for the property that is asked for, if one is
abbrev pub ChecksWitness : Option Shown → Option ℕ → List ℕ → Raw → Result Verdict RunFault → List ℕ → Type 0
ChecksWitness (Some shown) asked text = OfProperty asked (ChecksAndTraces shown) text
ChecksWitness None asked text = OfProperty asked Checks text
