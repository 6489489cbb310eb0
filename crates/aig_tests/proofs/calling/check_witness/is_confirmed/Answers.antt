-- A command that answers well wrote all that it means to.
use Rattle.std.proofs.Common.{◌≡◌, ℕ, List, Result, Ok, true, subst, sym}
use Rattle.aig_bytes.specs.Flow.{Flow}
use Rattle.aig_sim.specs.declared.witness.verdict.Verdict.{Verdict}
use Rattle.aig_command.specs.Command.{CommandEnds}
use Rattle.aig_command.specs.declared.run_fault.RunFault.{RunFault}
use Rattle.aig_tests.proofs.calling.check_witness.is_confirmed.Goals as goal

wrote_all : {X T : Type 0} {out : Flow X} {fault : RunFault} {Means : Result T RunFault → List ℕ → Type 0} {value : T}
    → CommandEnds out fault Means (Ok value) → (bytes : List ℕ) × Means (Ok value) bytes
wrote_all (CommandEnds.writes_all bytes means all) = (bytes, means)

wrote_this : {X T : Type 0} {out : Flow X} {fault : RunFault} {Means : Result T RunFault → List ℕ → Type 0} {value this : T}
    → value ≡ this → CommandEnds out fault Means (Ok value) → (bytes : List ℕ) × Means (Ok this) bytes
wrote_this {Means = Means} is ends = subst (λ value. (bytes : List ℕ) × Means (Ok value) bytes) is (wrote_all ends)

pub returns-in-Confirmed : goal.returns-in-Confirmed
returns-in-Confirmed c = record { confirmed = λ is. wrote_this c.in-Confirmed.is c.in_ok-check_bytes.ensures.ends }
