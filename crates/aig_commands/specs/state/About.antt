-- The circuit that a question is about, its formula, and the check of a proof about it.
use Rattle.std.specs.Prelude.{◌≡◌, ◌⊎◌, ℕ, ◌+◌, ◌^◌, ◌<◌, List, Option, None, Some, IfSome, Result, Ok, Err}
use Rattle.aig_parts.specs.declared.fault.Fault.{Fault}
use Rattle.aig_parts.specs.declared.raw.Raw.{Raw}
use Rattle.aig_cnf.specs.Query.{from_any_state, induction, subject}
use Rattle.aig_cnf.specs.ReadFormula.{HasReadAliveFormula, IsReadAliveOf, RefusesReadAlive}
use Rattle.aig_cnf.specs.ReadFormula.{HasReadFormula, IsReadOf, ReadCnf, RefusesReadFormula}
use Rattle.aig_cnf.specs.declared.fault.CnfFault.{CnfFault}
use Rattle.aig_cnf.specs.declared.heading.Heading.{Heading}
use Rattle.aig_cnf.specs.declared.heading.Heading.TheVariants.{Runs, Alive, Certified}
use Rattle.aig_command.specs.Command.{IsFileOf, RefusesCircuit}
use Rattle.aig_command.specs.declared.run_fault.RunFault.{RunFault}
use Rattle.aig_command.specs.declared.run_fault.RunFault.TheVariants as run_faults
use Rattle.aig_sat.specs.checker.Consequence.{IsUnsatisfiable}
use Rattle.aig_sat.specs.declared.proof.fault.ProofFault.{ProofFault}
use Rattle.aig_sat.specs.declared.proof.fault.ProofFault.TheVariants as faults
use Rattle.aig_sat.specs.proof.Proofs.{HasAddition, IsProof}
use Rattle.aig_commands.specs.Certified.{IsCertified, RefusesCertified}
use Rattle.aig_commands.specs.Questions.{Asked, ChecksFor, certificate_of}
use Rattle.aig_commands.specs.Refute.{answer_text, proof_reads_failed, step_reads_failed}
use Rattle.aig_commands.specs.declared.certified.Purpose.TheVariants.{Formula}
use Rattle.aig_commands.specs.declared.refute.Proofs.{Proofs}
use Rattle.aig_commands.specs.state.Extended.{IsExtensionOf}

-- it is the circuit of the file, or the one that the certificate makes of it
abbrev pub IsAbout : Option (List ℕ × ℕ) → List ℕ → Raw → Type 0
IsAbout None file raw = IsFileOf file raw
IsAbout (Some (claims, p)) file raw = IsCertified file p claims raw × IsExtensionOf file p raw

-- the circuit's file is refused
abbrev pub RefusesFile : List ℕ → RunFault → Type 0
RefusesFile file part = (fault : Fault) × (part ≡ run_faults.Circuit fault) × RefusesCircuit file fault

-- there is no such circuit
abbrev pub RefusesFiles : Option (List ℕ × ℕ) → List ℕ → RunFault → Type 0
RefusesFiles None file part = RefusesFile file part
RefusesFiles (Some (claims, p)) file part = RefusesCertified Formula file p claims part

-- there is its formula
abbrev pub HasItsFormula : Heading → Raw → Type 0
HasItsFormula (Runs query) raw = HasReadFormula raw query
HasItsFormula (Alive k) raw = HasReadAliveFormula raw k
HasItsFormula (Certified p) raw = HasReadFormula raw (induction 1 0)

-- this is it
abbrev pub IsItsFormula : Heading → Raw → ReadCnf → Type 0
IsItsFormula (Runs query) raw read = IsReadOf raw query read
IsItsFormula (Alive k) raw read = IsReadAliveOf raw k read
IsItsFormula (Certified p) raw read = IsReadOf raw (induction 1 0) read

-- there is none, for this reason
abbrev pub RefusesItsFormula : Heading → Raw → CnfFault → Type 0
RefusesItsFormula (Runs query) raw fault = RefusesReadFormula raw query fault
RefusesItsFormula (Alive k) raw fault = RefusesReadAlive raw k fault
RefusesItsFormula (Certified p) raw fault = RefusesReadFormula raw (induction 1 0) fault

-- the circuit whose variables the lines before it name
abbrev pub subject_of : Heading → Raw → Raw
subject_of (Runs query) raw = subject query.goal raw
subject_of (Alive k) raw = raw
subject_of (Certified p) raw = from_any_state raw

-- What the check of a proof about it says: it is refuted; or it is not there, or the proof is refused.
abbrev pub ChecksFormula : Heading → Raw → Result (Unit {0}) RunFault → Type 0
ChecksFormula heading raw (Ok done) =
    HasItsFormula heading raw × ((read : ReadCnf) × IsItsFormula heading raw read × IsUnsatisfiable read.cnf.clauses)
ChecksFormula heading raw (Err (run_faults.Cnf fault)) = RefusesItsFormula heading raw fault
ChecksFormula heading raw (Err (run_faults.Proof fault)) = HasItsFormula heading raw
ChecksFormula heading raw (Err _) = ⊥

-- there is no circuit that the question is about, or it is checked
abbrev pub IsChecked : Asked → List ℕ → Result (Unit {0}) RunFault → Type 0
IsChecked asked file checked =
    ((fault : RunFault) × (checked ≡ Err fault) × RefusesFiles (certificate_of asked) file fault)
    ⊎ ((raw : Raw) × IsAbout (certificate_of asked) file raw × ChecksFor asked raw checked)

-- the answer is that of the check, and its line is written where all went well
abbrev pub Answers : List ℕ → Result (Unit {0}) RunFault → Result (Unit {0}) RunFault → List ℕ → Type 0
Answers line checked answer text = (answer ≡ checked) × (text ≡ answer_text line checked)

-- a fault of the step's proof
abbrev pub IsOfStepProof : RunFault → Type 0
IsOfStepProof fault = (why : ProofFault) × (fault ≡ run_faults.StepProof why)

-- what an answer says of the two proofs that were read for it: how many reads failed, that the bytes are a proof if it has no
-- refutation, and that the step that is named is an addition
pub record ReadsProofs {X Y : Type 0} (left : X → Option (List ℕ)) (failures : X → ℕ) (left_step : Y → Option (List ℕ))
    (failures_step : Y → ℕ) (old new : Proofs X Y) (answer : Result (Unit {0}) RunFault) : Type 0 where
  pub reads : failures new.proof ≡ failures old.proof + proof_reads_failed answer
  pub reads_step : failures_step new.step ≡ failures_step old.step + step_reads_failed answer
  pub whole : answer ≡ Err (run_faults.Proof faults.NoRefutation) → IfSome (left old.proof) IsProof
  pub whole_step : answer ≡ Err (run_faults.StepProof faults.NoRefutation) → IfSome (left_step old.step) IsProof
  pub named : (n : ℕ) → answer ≡ Err (run_faults.Proof (faults.Step n)) → n + 1 < 2 ^ 64 → IfSome (left old.proof) (HasAddition n)
  pub named_step : (n : ℕ) → answer ≡ Err (run_faults.StepProof (faults.Step n)) → n + 1 < 2 ^ 64
      → IfSome (left_step old.step) (HasAddition n)
