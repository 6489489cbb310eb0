use Rattle.std.proofs.Common.{ℕ, List, ap, subst, ◌∙◌}
use Rattle.aig_sat.specs.checker.Basis.{Basis, KeepsNumbers, basis}
use Rattle.aig_sat.specs.checker.Consequence.{Follows}
use Rattle.aig_sat.proofs.checking.RefutationLemmas.{clauses_of, follows_holding, formula}
use Rattle.aig_sat.proofs.checker.refutation.Refutation.add_variables.Goals as goal

pub returns-clause-follows : goal.returns-clause-follows
returns-clause-follows c =
    subst (λ (x : List (List ℕ)). Follows x (formula c.add_variables.new.self)) (ap clauses_of c.self.view_is)
    (follows_holding c.self.inside.checker c.add_variables.new.self c.add_variables.ensures.adds.holding)

pub returns-clause-numbered : goal.returns-clause-numbered
returns-clause-numbered c =
    subst (λ (x : Basis). KeepsNumbers x (basis c.add_variables.new.self)) c.self.view_is c.add_variables.ensures.adds.numbered

pub returns-clause-next : goal.returns-clause-next
returns-clause-next c = c.add_variables.ensures.adds.next ∙ ap (λ (b : Basis). b.next) c.self.view_is

pub returns-clause-variables : goal.returns-clause-variables
returns-clause-variables c = c.add_variables.ensures.variables
