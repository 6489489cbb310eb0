-- What `refute` answers, from what the check of a proof says.
use Rattle.std.proofs.Common.{◌≡◌, ◌≢◌, ℕ, List, Result, Ok, Err, OnOk, IfErr, refl, sym, ◌∙◌, subst}
use Rattle.aig_parts.specs.declared.raw.Raw.{Raw}
use Rattle.aig_bytes.specs.Flow.{Flow}
use Rattle.aig_refute.specs.Unreachable.{IsUnreachable}
use Rattle.aig_command.specs.declared.run_fault.RunFault.{RunFault}
use Rattle.aig_command.specs.declared.run_fault.RunFault.TheVariants as run_faults
use Rattle.aig_command.specs.Command.{CommandEnds}
use Rattle.aig_commands.specs.Refute.{ChecksStep, HasFormulas}
use Rattle.aig_commands.specs.state.About.{Answers, IsOfStepProof}

pub checks_step : (k p : ℕ) (raw : Raw) (r : Result (Unit {0}) RunFault) → HasFormulas k p raw → OnOk r (IsUnreachable raw p)
    → IfErr r IsOfStepProof → ChecksStep k p raw r
checks_step k p raw (Ok done) has shown fault = (has, shown)
checks_step k p raw (Err fault) has shown (why, is) = subst (λ f. ChecksStep k p raw (Err f)) (sym is) has

-- where no write failed, the answer is that of the check
pub answer_is : {X : Type 0} (out : Flow X) (line : List ℕ) (checked result : Result (Unit {0}) RunFault)
    → CommandEnds out run_faults.Output (Answers line checked) result → result ≢ Err run_faults.Output → result ≡ checked
answer_is out line checked result (CommandEnds.writes_all bytes (same, is) got) other = same
answer_is out line checked result (CommandEnds.breaks_off answer bytes means breaks) other = absurd (other refl)

-- and another fault than that of the output is the check's
pub fault_is : {X : Type 0} (out : Flow X) (line : List ℕ) (checked result : Result (Unit {0}) RunFault) (fault : RunFault)
    → CommandEnds out run_faults.Output (Answers line checked) result → fault ≢ run_faults.Output → result ≡ Err fault
    → checked ≡ Err fault
fault_is out line checked result fault ends other is = sym (answer_is out line checked result ends other_answer) ∙ is
  where
    other_answer : result ≢ Err run_faults.Output
    other_answer e = let k : Err fault ≡ Err run_faults.Output = sym is ∙ e in let same : fault ≡ run_faults.Output = cc in other same
