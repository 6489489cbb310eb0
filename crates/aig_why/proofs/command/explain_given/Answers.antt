use Rattle.std.proofs.Common.{[], Err, inl, inr, refl, sym, subst}
use Rattle.std.specs.Prelude.{option_copied}
use Rattle.std.proofs.lemmas.Result.{IfErr-weaker, IfOk-weaker}
use Rattle.aig_bytes.proofs.Results.{known_err}
use Rattle.aig_command.proofs.GivenRuns.{given_property, given_start}
use Rattle.aig_command.specs.Given.{given_text, read_run}
use Rattle.aig_command.specs.declared.run_fault.RunFault.{RunFault}
use Rattle.aig_command.specs.declared.run_fault.RunFault.TheVariants as run_faults
use Rattle.aig_why.specs.Why.{WritesWhy}
use Rattle.aig_why.specs.state.Asked.{IsAskedAs}
use Rattle.aig_why.proofs.command.explain_given.Goals as goal

pub question_of-requires : goal.question_of-requires
question_of-requires c =
    given_property c.args.circuit (given_text c.args.given) (read_run c.in_ok-given.given) c.in_ok-given.ensures.run

pub explain-requires-clause-start : goal.explain-requires-clause-start
explain-requires-clause-start c =
    given_start c.args.circuit (given_text c.args.given) (read_run c.in_ok-given.given) c.in_ok-given.ensures.run

pub returns-clause-text : goal.returns-clause-text
returns-clause-text c =
    let raw = c.args.circuit in
    let name = option_copied c.args.asked.name in
    let run = read_run c.in_ok-given.given in
    IfOk-weaker c.explain.result _ _
    (λ text h. (
      run,
      c.in_ok-given.ensures.run,
      h,
    ))
    (c.explain.ensures.text run.property name
    (subst (IsAskedAs raw name run.property) (sym c.as_ref.ensures.value) c.in_ok-question.ensures.asked))

pub returns-clause-fault : goal.returns-clause-fault
returns-clause-fault c =
    let raw = c.args.circuit in
    let name = option_copied c.args.asked.name in
    let run = read_run c.in_ok-given.given in
    IfErr-weaker c.explain.result _ _
    (λ fault h. (
      inr (
        run,
        c.in_ok-given.ensures.run,
        h,
      ),
      refl,
    ))
    (c.explain.ensures.fault run.property name
    (subst (IsAskedAs raw name run.property) (sym c.as_ref.ensures.value) c.in_ok-question.ensures.asked))

pub returns-in_err-given-clause-fault : goal.returns-in_err-given-clause-fault
returns-in_err-given-clause-fault c =
    known_err c.from_residual.result c.in_err-given.field-0.0
    (λ (f : RunFault). WritesWhy c.args.asked.form (given_text c.args.given) (option_copied c.args.asked.name) c.args.asked.span c.args.circuit (Err f) [])
    c.from_residual.ensures.1 (inl c.in_err-given.ensures.fault, refl)

pub returns-in_err-question-clause-fault : goal.returns-in_err-question-clause-fault
returns-in_err-question-clause-fault c =
    known_err c.from_residual-in_err-question.result run_faults.Memory
    (λ (f : RunFault). WritesWhy c.args.asked.form (given_text c.args.given) (option_copied c.args.asked.name) c.args.asked.span c.args.circuit (Err f) [])
    c.from_residual-in_err-question.ensures.1 (inr (read_run c.in_ok-given.given, c.in_ok-given.ensures.run, tt), refl)
