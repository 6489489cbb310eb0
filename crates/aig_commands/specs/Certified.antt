-- What the commands write for a circuit and a certificate for one of its bad state properties: what they write for the
-- circuit that is strengthened by it.
-- Example: the same certificate for a property that is not there: `strengthen: property`, and from `cnf` `cnf:
-- property`.
use Rattle.std.specs.Prelude.{◌≡◌, ◌⊎◌, ℕ, List, [], Result, Err}
use Rattle.aig_parts.specs.declared.fault.Fault.{Fault}
use Rattle.aig_parts.specs.declared.raw.Raw.{Raw}
use Rattle.aig_cnf.specs.declared.fault.CnfFault.TheVariants as formulas
use Rattle.aig_certificate.specs.Answers.{RefusesStrengthening}
use Rattle.aig_certificate.specs.Strengthened.{IsStrengthened}
use Rattle.aig_certificate.specs.declared.fault.StrengthenFault.{StrengthenFault}
use Rattle.aig_certificate.specs.declared.fault.StrengthenFault.TheVariants as faults
use Rattle.aig_command.specs.Command.{IsFileOf, RefusesCircuit}
use Rattle.aig_command.specs.declared.run_fault.RunFault.{RunFault}
use Rattle.aig_command.specs.declared.run_fault.RunFault.TheVariants as run_faults
use Rattle.aig_commands.specs.declared.certified.Purpose.{Purpose}
use Rattle.aig_commands.specs.declared.certified.Purpose.TheVariants.{Circuit, Formula}

-- The part that is said to refuse a strengthening. Where a formula is asked for, that there is no property or no room
-- is a fault of the formula.
abbrev pub strengthening_fault : Purpose → StrengthenFault → RunFault
strengthening_fault Formula faults.Property = run_faults.Cnf formulas.Property
strengthening_fault Formula faults.Limit = run_faults.Cnf formulas.Limit
strengthening_fault Formula faults.Memory = run_faults.Cnf formulas.Memory
strengthening_fault purpose fault = run_faults.Strengthen fault

-- why there is no strengthened circuit: the circuit's file is refused, or else the certificate's, or else the two
-- together
pub data RefusesCertified (purpose : Purpose) (file : List ℕ) (p : ℕ) (certificate : List ℕ) : RunFault → Type 0 where
  no_circuit : (fault : Fault) → RefusesCircuit file fault
      → RefusesCertified purpose file p certificate (run_faults.Circuit fault)
  no_certificate : (raw : Raw) (fault : Fault) → IsFileOf file raw → RefusesCircuit certificate fault
      → RefusesCertified purpose file p certificate (run_faults.Certificate fault)
  apart : (raw claims : Raw) (fault : StrengthenFault) → IsFileOf file raw → IsFileOf certificate claims
      → RefusesStrengthening raw p claims fault
      → RefusesCertified purpose file p certificate (strengthening_fault purpose fault)

-- the two files are those of a circuit and of a certificate by which it is strengthened to x
pub record IsCertified (file : List ℕ) (p : ℕ) (certificate : List ℕ) (x : Raw) : Type 0 where
  pub raw : Raw
  pub claims : Raw
  pub circuit : IsFileOf file raw
  pub certificate_is : IsFileOf certificate claims
  pub strengthened : IsStrengthened raw p claims x

-- Which bytes a command writes for a circuit and a certificate, with which answer: none where there is no strengthened
-- circuit, else what `Means` says of it.
abbrev pub OfCertified : Purpose → List ℕ → ℕ → List ℕ → (Raw → Result (Unit {0}) RunFault → List ℕ → Type 0)
    → Result (Unit {0}) RunFault → List ℕ → Type 0
OfCertified purpose file p certificate Means answer text =
    ((fault : RunFault) × (answer ≡ Err fault) × RefusesCertified purpose file p certificate fault × (text ≡ []))
    ⊎ ((x : Raw) × IsCertified file p certificate x × Means x answer text)
