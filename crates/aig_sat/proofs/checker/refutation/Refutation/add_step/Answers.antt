use Rattle.std.proofs.Common.{ℕ, List, ap, subst, sym, ◌∙◌}
use Rattle.std.specs.Prelude.{IfOk, IfSome}
use Rattle.aig_sat.specs.checker.Basis.{Basis, IsShownByHints, NumbersStep, basis}
use Rattle.aig_sat.specs.checker.Consequence.{Follows}
use Rattle.aig_sat.proofs.checking.HintLemmas.{if_some_then}
use Rattle.aig_sat.proofs.checking.RefutationLemmas.{clauses_of, follows_holding, formula, step_pulled}
use Rattle.aig_sat.proofs.checker.refutation.Refutation.add_step.Goals as goal

pub returns-clause-stands : goal.returns-clause-stands
returns-clause-stands c =
    subst (λ (x : List (List ℕ)). Follows x (formula c.add_step.new.self)) (ap clauses_of c.self.view_is)
    (follows_holding c.self.inside.checker c.add_step.new.self c.add_step.ensures.stands)

pub returns-clause-follows : goal.returns-clause-follows
returns-clause-follows c =
    step_pulled c.add_step.result c.args.clause.now c.self.inside.checker c.args.self.now.clauses (ap clauses_of c.self.view_is)
    c.add_step.ensures.follows

pub returns-clause-accepted : goal.returns-clause-accepted
returns-clause-accepted c =
    if_some_then c.args.hints _ _
    (λ hints shown it. shown (subst (λ (x : Basis). IsShownByHints x c.args.clause.now hints.now) (sym c.self.view_is) it))
    c.add_step.ensures.shown

pub returns-clause-numbered : goal.returns-clause-numbered
returns-clause-numbered c = λ hinted.
    subst (λ (x : Basis). IfSome c.args.hints (λ _. IfOk c.add_step.result (NumbersStep c.args.clause.now x (basis c.add_step.new.self))))
    c.self.view_is
    (c.add_step.ensures.numbered (ap (λ (b : Basis). b.is_hinted) c.self.view_is ∙ hinted))
