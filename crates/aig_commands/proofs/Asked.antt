-- A command on a witness that may be asked for a property, from what the command means without one.
use Rattle.std.proofs.Common.{ℕ, List, [], Result, Ok, Err, refl}
use Rattle.std.specs.Prelude.{Option, None, Some, IfSome}
use Rattle.aig_parts.specs.declared.raw.Raw.{Raw}
use Rattle.aig_bytes.specs.Flow.{Flow, flow}
use Rattle.aig_sim.specs.declared.witness.fault.WitnessFault.{WitnessFault}
use Rattle.aig_sim.specs.declared.witness.verdict.Verdict.{Verdict}
use Rattle.aig_sim.specs.WitnessText.{IsWitnessOf, HasWitnessFault}
use Rattle.aig_command.specs.Command.{CommandEnds, IsFileOf, OfFile}
use Rattle.aig_command.specs.declared.run_fault.RunFault.{RunFault}
use Rattle.aig_command.specs.declared.run_fault.RunFault.TheVariants as run_faults
use Rattle.aig_command.proofs.Files.{MeansNoFault, ends_of_file}
use Rattle.aig_command.proofs.Written.{ends_map, got_none}
use Rattle.aig_commands.specs.declared.check.Shown.{Shown}
use Rattle.aig_commands.specs.Check.{Checks, ChecksAndTraces, OfProperty}
use Rattle.aig_commands.specs.state.Asked.{RefusesAsked}

-- what the command means without a property: it refuses what is no witness, and nothing else of the circuit or the witness
pub record IsOfWitness (Means : List ℕ → Raw → Result Verdict RunFault → List ℕ → Type 0) (text : List ℕ) (raw : Raw) : Type 0 where
  pub circuit : MeansNoFault (Means text) raw
  pub other : (found asked : ℕ) (bytes : List ℕ) → Means text raw (Err (run_faults.OtherProperty found asked)) bytes → ⊥
  pub refuses : (fault : WitnessFault) → HasWitnessFault raw text fault → Means text raw (Err (run_faults.Witness fault)) []

module _ (Means : List ℕ → Raw → Result Verdict RunFault → List ℕ → Type 0) (text : List ℕ) (raw : Raw)
    (plain : IsOfWitness Means text raw) where
  no_circuit : (asked : Option ℕ) → MeansNoFault (OfProperty asked Means text) raw
  no_circuit None fault bytes h = plain.circuit fault bytes h
  no_circuit (Some property) fault bytes h = plain.circuit fault bytes h

  -- of a witness of the property that is asked for it means the same
  asked_for : (asked : Option ℕ) → IfSome asked (λ property. IsWitnessOf property raw text) → (answer : Result Verdict RunFault)
      (bytes : List ℕ) → Means text raw answer bytes → OfProperty asked Means text raw answer bytes
  asked_for None is answer bytes m = m
  asked_for (Some property) is (Ok verdict) bytes m = (is, m)
  asked_for (Some property) is (Err (run_faults.OtherProperty found other)) bytes m = absurd (plain.other found other bytes m)
  asked_for (Some property) is (Err fault) bytes m = m

  -- any other text is refused
  refused_asked : (asked : Option ℕ) (fault : RunFault) → RefusesAsked asked raw text fault
      → OfProperty asked Means text raw (Err fault) []
  refused_asked None fault h = absurd h
  refused_asked (Some property) (run_faults.Witness fault) h = plain.refuses fault h
  refused_asked (Some property) (run_faults.OtherProperty found other) (same, differs, is) = (same, differs, is, refl)
  refused_asked (Some property) fault h = absurd h

  -- so it ends for a file of the circuit: if the test of the property passed, as without a property
  pub asked_ends : {X : Type 0} (out : Flow X) (file : List ℕ) → IsFileOf file raw → (asked : Option ℕ)
      → IfSome asked (λ property. IsWitnessOf property raw text) → (r : Result Verdict RunFault)
      → CommandEnds out run_faults.Output (Means text raw) r
      → CommandEnds out run_faults.Output (OfFile file (OfProperty asked Means text)) r
  asked_ends out file is_file asked is r ends =
      ends_of_file (OfProperty asked Means text) raw (no_circuit asked) out run_faults.Output file is_file r
      (ends_map out run_faults.Output (Means text raw) (OfProperty asked Means text raw) (asked_for asked is) r ends)

  -- else without a byte
  pub refused_ends : {X : Type 0} (written : X → Option (List ℕ)) (failures : X → ℕ) (old : X) (file : List ℕ) → IsFileOf file raw
      → (asked : Option ℕ) (fault : RunFault) → RefusesAsked asked raw text fault
      → CommandEnds (flow written failures old old) run_faults.Output (OfFile file (OfProperty asked Means text)) (Err fault)
  refused_ends written failures old file is_file asked fault h =
      ends_of_file (OfProperty asked Means text) raw (no_circuit asked) (flow written failures old old) run_faults.Output file
      is_file (Err fault) (CommandEnds.writes_all [] (refused_asked asked fault h) (got_none written failures old))

pub checks_witness : (text : List ℕ) (raw : Raw) → IsOfWitness Checks text raw
checks_witness text raw =
    record { circuit = λ fault bytes h. h; other = λ found asked bytes h. h; refuses = λ fault h. (h, refl) }

pub traces_witness : (shown : Shown) (text : List ℕ) (raw : Raw) → IsOfWitness (ChecksAndTraces shown) text raw
traces_witness shown text raw =
    record { circuit = λ fault bytes h. h; other = λ found asked bytes h. h; refuses = λ fault h. (h, refl) }
