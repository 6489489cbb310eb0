use Rattle.std.proofs.Common.{◌≡◌, Err, inr, ap, subst, arith}
use Rattle.std.proofs.lemmas.Result.{err_from_is_err_and, on_ok_weaker}
use Rattle.aig_parts.specs.declared.raw.Raw.{Raw}
use Rattle.aig_cnf.specs.Query.{step, within}
use Rattle.aig_cnf.specs.Formula.{Cnf}
use Rattle.aig_cnf.specs.ReadFormula.{HasReadFormula, IsReadOf, RefusesReadFormula}
use Rattle.aig_command.proofs.Files.{answered}
use Rattle.aig_command.specs.declared.run_fault.RunFault.TheVariants as run_faults
use Rattle.aig_sat.specs.checker.Consequence.{IsUnsatisfiable}
use Rattle.aig_sat.specs.declared.proof.fault.ProofFault.TheVariants as faults
use Rattle.aig_refute.proofs.ReadFormulas.{read_by_induction, read_formula}
use Rattle.aig_commands.specs.Refute.{ChecksStep}
use Rattle.aig_commands.proofs.Refutations.{checks_step}
use Rattle.aig_commands.proofs.refute.check_step.Goals as goal

pub returns-clause-checks : goal.returns-clause-checks
returns-clause-checks g c =
    let raw = c.args.circuit.now in
    let k = c.args.query.frames in
    let p = c.args.query.property in
    let base' = c.in_ok-base.base in
    let later' = c.in_ok-later.later in
    let e = c.in_ok-base.ensures in
    let f = c.in_ok-later.ensures in
    checks_step k p raw c.check_later.result (e.accepted, subst (λ (r : Raw). HasReadFormula r (step k p)) e.circuit f.accepted)
    (on_ok_weaker c.check_later.result (read_by_induction raw c.facts.ensures base'.cnf later'.cnf k p
    (read_formula raw (within k p) base' e.formula)
    (read_formula raw (step k p) later' (subst (λ (r : Raw). IsReadOf r (step k p) later') e.circuit f.formula))
    (subst (λ (x : Cnf). IsUnsatisfiable x.clauses) c.formula.ensures c.in_ok-check.ensures.refuted)) c.check_later.ensures.refuted)
    c.check_later.ensures.fault

pub returns-in_err-later-clause-checks : goal.returns-in_err-later-clause-checks
returns-in_err-later-clause-checks g c =
    let k = c.args.query.frames in
    let p = c.args.query.property in
    let fault = c.in_err-later.field-0.0 in
    answered c.from_residual-in_err-later.result (run_faults.Cnf fault) (ChecksStep k p c.args.circuit.now)
    c.from_residual-in_err-later.ensures.1
    (inr (
      c.in_ok-base.ensures.accepted,
      subst (λ (r : Raw). RefusesReadFormula r (step k p) fault) c.in_ok-base.ensures.circuit c.in_err-later.ensures.refused,
    ))

pub returns-in_err-check-clause-reads : goal.returns-in_err-check-clause-reads
returns-in_err-check-clause-reads g c =
    let fault = c.in_err-check.field-0.0 in
    let check = c.in_err-check.ensures in
    let answer = err_from_is_err_and c.from_residual-in_err-check.result c.from_residual-in_err-check.ensures.1 in
    rw (answer.1, answer.2) (record {
      reads = check.count;
      reads_step = omega arith;
      whole = λ is. check.whole (ap Err (let e : fault ≡ faults.NoRefutation = cc in e));
      whole_step = λ is. let no : ⊥ = cc in absurd no;
      named = λ n is. check.step n (ap Err (let e : fault ≡ faults.Step n = cc in e));
      named_step = λ n is below. let no : ⊥ = cc in absurd no;
    })
