use Rattle.aig_cnf.specs.declared.query.Goal.TheVariants as goals
use Rattle.aig_commands.specs.Questions.{asked_of}
use Rattle.aig_commands.proofs.Questions.{checks_one, checks_two, no_step}
use Rattle.aig_commands.proofs.refute.check_question.Goals as goal

pub returns-in-Within-clause-checks : goal.returns-in-Within-clause-checks
returns-in-Within-clause-checks g c =
    let asked = asked_of c.args.question in
    checks_one asked c.args.circuit.now c.facts.ensures
    (no_step asked c.query_of-query.result goals.Within c.query_of-query.ensures c.in-Within.is (λ e. let no : ⊥ = cc in no)) c.check_formula.result
    c.check_formula.ensures.checks

pub returns-in-Last-clause-checks : goal.returns-in-Last-clause-checks
returns-in-Last-clause-checks g c =
    let asked = asked_of c.args.question in
    checks_one asked c.args.circuit.now c.facts.ensures
    (no_step asked c.query_of-query.result goals.Last c.query_of-query.ensures c.in-Last.is (λ e. let no : ⊥ = cc in no)) c.check_formula-in-Last.result
    c.check_formula-in-Last.ensures.checks

pub returns-in-Induction-clause-checks : goal.returns-in-Induction-clause-checks
returns-in-Induction-clause-checks g c =
    let asked = asked_of c.args.question in
    checks_one asked c.args.circuit.now c.facts.ensures
    (no_step asked c.query_of-query.result goals.Induction c.query_of-query.ensures c.in-Induction.is (λ e. let no : ⊥ = cc in no)) c.check_formula-in-Induction.result
    c.check_formula-in-Induction.ensures.checks

pub returns-in-Step-clause-checks : goal.returns-in-Step-clause-checks
returns-in-Step-clause-checks g c =
    checks_two (asked_of c.args.question) c.query_of-query.result c.query_of-query.ensures c.in-Step.is c.args.circuit.now
    c.check_step.result c.check_step.ensures.checks
