use Rattle.std.proofs.Common.{◌≡◌, IfErr, IfOk, OnOk, ap, subst, sym, ◌∙◌}
use Rattle.aig_cnf.specs.declared.heading.Heading.{Heading}
use Rattle.aig_commands.specs.state.About.{HasItsFormula, IsItsFormula, RefusesItsFormula, subject_of}
use Rattle.aig_commands.proofs.question.formula_of.Goals as goal

pub returns-in-Runs-clause-formula : goal.returns-in-Runs-clause-formula
returns-in-Runs-clause-formula c =
    subst (λ (h : Heading). IfOk c.of.result (IsItsFormula h c.args.circuit.now))
    (sym c.in-Runs.is ∙ c.heading_of.ensures) c.of.ensures.formula

pub returns-in-Runs-clause-accepted : goal.returns-in-Runs-clause-accepted
returns-in-Runs-clause-accepted c =
    subst (λ (h : Heading). OnOk c.of.result (HasItsFormula h c.args.circuit.now))
    (sym c.in-Runs.is ∙ c.heading_of.ensures) c.of.ensures.accepted

pub returns-in-Runs-clause-refused : goal.returns-in-Runs-clause-refused
returns-in-Runs-clause-refused c =
    subst (λ (h : Heading). IfErr c.of.result (RefusesItsFormula h c.args.circuit.now))
    (sym c.in-Runs.is ∙ c.heading_of.ensures) c.of.ensures.refused

pub returns-in-Runs-clause-circuit : goal.returns-in-Runs-clause-circuit
returns-in-Runs-clause-circuit c =
    subst (λ (h : Heading). c.of.new.circuit ≡ subject_of h c.args.circuit.now)
    (sym c.in-Runs.is ∙ c.heading_of.ensures) c.of.ensures.circuit

pub returns-in-Alive-clause-formula : goal.returns-in-Alive-clause-formula
returns-in-Alive-clause-formula c =
    subst (λ (h : Heading). IfOk c.alive.result (IsItsFormula h c.args.circuit.now))
    (sym c.in-Alive.is ∙ c.heading_of.ensures) c.alive.ensures.formula

pub returns-in-Alive-clause-accepted : goal.returns-in-Alive-clause-accepted
returns-in-Alive-clause-accepted c =
    subst (λ (h : Heading). OnOk c.alive.result (HasItsFormula h c.args.circuit.now))
    (sym c.in-Alive.is ∙ c.heading_of.ensures) c.alive.ensures.accepted

pub returns-in-Alive-clause-refused : goal.returns-in-Alive-clause-refused
returns-in-Alive-clause-refused c =
    subst (λ (h : Heading). IfErr c.alive.result (RefusesItsFormula h c.args.circuit.now))
    (sym c.in-Alive.is ∙ c.heading_of.ensures) c.alive.ensures.refused

pub returns-in-Alive-clause-circuit : goal.returns-in-Alive-clause-circuit
returns-in-Alive-clause-circuit c =
    ap (λ (h : Heading). subject_of h c.args.circuit.now) (sym c.in-Alive.is ∙ c.heading_of.ensures)

pub returns-in-Certified-clause-formula : goal.returns-in-Certified-clause-formula
returns-in-Certified-clause-formula c =
    subst (λ (h : Heading). IfOk c.of-in-Certified.result (IsItsFormula h c.args.circuit.now))
    (sym c.in-Certified.is ∙ c.heading_of.ensures) c.of-in-Certified.ensures.formula

pub returns-in-Certified-clause-accepted : goal.returns-in-Certified-clause-accepted
returns-in-Certified-clause-accepted c =
    subst (λ (h : Heading). OnOk c.of-in-Certified.result (HasItsFormula h c.args.circuit.now))
    (sym c.in-Certified.is ∙ c.heading_of.ensures) c.of-in-Certified.ensures.accepted

pub returns-in-Certified-clause-refused : goal.returns-in-Certified-clause-refused
returns-in-Certified-clause-refused c =
    subst (λ (h : Heading). IfErr c.of-in-Certified.result (RefusesItsFormula h c.args.circuit.now))
    (sym c.in-Certified.is ∙ c.heading_of.ensures) c.of-in-Certified.ensures.refused

pub returns-in-Certified-clause-circuit : goal.returns-in-Certified-clause-circuit
returns-in-Certified-clause-circuit c =
    subst (λ (h : Heading). c.of-in-Certified.new.circuit ≡ subject_of h c.args.circuit.now)
    (sym c.in-Certified.is ∙ c.heading_of.ensures) c.of-in-Certified.ensures.circuit
