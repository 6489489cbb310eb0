-- How a command on a circuit and a certificate ends, and what the check of its proof shows.
use Rattle.std.proofs.Common.{◌≡◌, inl, inr, ℕ, List, [], Result, Ok, Err, OnOk, refl}
use Rattle.std.specs.Prelude.{Option}
use Rattle.std.specs.Result.{IsErrAnd}
use Rattle.aig_bytes.specs.Flow.{Flow, flow}
use Rattle.aig_parts.specs.declared.raw.Raw.{Raw}
use Rattle.aig_base.specs.Circuit.{IsCircuit}
use Rattle.aig_refute.proofs.ExtensionLemmas.{unreachable_of_extension}
use Rattle.aig_command.specs.Command.{CommandEnds}
use Rattle.aig_command.specs.declared.run_fault.RunFault.{RunFault}
use Rattle.aig_command.specs.declared.run_fault.RunFault.TheVariants as run_faults
use Rattle.aig_command.proofs.Files.{answered}
use Rattle.aig_command.proofs.Written.{ends_map, got_none}
use Rattle.aig_commands.specs.Certified.{IsCertified, OfCertified, RefusesCertified}
use Rattle.aig_commands.specs.Refute.{ChecksInduction, IsFileNeverReached}
use Rattle.aig_commands.specs.declared.certified.Purpose.{Purpose}
use Rattle.aig_commands.specs.state.About.{Answers}
use Rattle.aig_commands.specs.state.Extended.{IsExtensionOf}

module _ (purpose : Purpose) (file : List ℕ) (p : ℕ) (certificate : List ℕ)
    (Means : Raw → Result (Unit {0}) RunFault → List ℕ → Type 0) where
  -- what it writes for the strengthened circuit
  pub certified_ends : {X : Type 0} (out : Flow X) (x : Raw) → IsCertified file p certificate x
      → (r : Result (Unit {0}) RunFault) → CommandEnds out run_faults.Output (Means x) r
      → CommandEnds out run_faults.Output (OfCertified purpose file p certificate Means) r
  certified_ends out x is r e =
      ends_map out run_faults.Output (Means x) (OfCertified purpose file p certificate Means) (λ answer text m. inr (x, is, m)) r e

  -- nothing where there is none
  pub not_certified : {X : Type 0} (written : X → Option (List ℕ)) (failures : X → ℕ) (old : X) (fault : RunFault)
      → RefusesCertified purpose file p certificate fault → (r : Result (Unit {0}) RunFault) → IsErrAnd r (λ f. f ≡ fault)
      → CommandEnds (flow written failures old old) run_faults.Output (OfCertified purpose file p certificate Means) r
  not_certified written failures old fault why r is =
      answered r fault (CommandEnds (flow written failures old old) run_faults.Output (OfCertified purpose file p certificate Means)) is
      (CommandEnds.writes_all [] (inl (fault, refl, why, refl)) (got_none written failures old))

-- what the induction over the strengthened circuit says of the circuit that was strengthened
pub never_reached : (file : List ℕ) (p : ℕ) (x : Raw) → IsCircuit x → IsExtensionOf file p x
    → (r : Result (Unit {0}) RunFault) → ChecksInduction x r → OnOk r (IsFileNeverReached file p)
never_reached file p x circuit (raw, is_file, (b, at, extension)) (Ok done) (has, shown) =
    (raw, is_file, unreachable_of_extension raw x p b circuit at extension shown)
never_reached file p x circuit extension (Err fault) checks = tt

-- what holds of a good check holds of a good answer
pub good_answer : {X : Type 0} (out : Flow X) (line : List ℕ) (checked result : Result (Unit {0}) RunFault) (P : Type 0)
    → OnOk checked P → CommandEnds out run_faults.Output (Answers line checked) result → OnOk result P
good_answer out line (Ok done) (Ok value) P p ends = p
good_answer out line (Err fault) (Ok value) P p (CommandEnds.writes_all bytes (same, is) got) = cc
good_answer out line checked (Err fault) P p ends = tt
