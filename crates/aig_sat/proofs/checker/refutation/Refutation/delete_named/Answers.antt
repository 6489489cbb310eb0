use Rattle.std.proofs.Common.{◌≡◌, ℕ, List, ap, subst, ◌+◌, ◌∙◌}
use Rattle.aig_parts.specs.Literal.{variable}
use Rattle.aig_sat.specs.checker.Basis.{Basis, KeepsOthers, basis}
use Rattle.aig_sat.specs.checker.Consequence.{Follows}
use Rattle.aig_sat.proofs.checking.RefutationLemmas.{clauses_of, follows_holding, formula}
use Rattle.aig_sat.proofs.checker.refutation.Refutation.delete_named.Goals as goal

pub returns-clause-follows : goal.returns-clause-follows
returns-clause-follows c =
    subst (λ (x : List (List ℕ)). Follows x (formula c.delete_named.new.self)) (ap clauses_of c.self.view_is)
    (follows_holding c.self.inside.checker c.delete_named.new.self c.delete_named.ensures.holding)

pub returns-clause-others : goal.returns-clause-others
returns-clause-others c =
    subst (λ (x : Basis). KeepsOthers (λ number. number ≡ variable c.args.id + 1) x (basis c.delete_named.new.self)) c.self.view_is
    c.delete_named.ensures.others

pub returns-clause-next : goal.returns-clause-next
returns-clause-next c = c.delete_named.ensures.next ∙ ap (λ (b : Basis). b.next) c.self.view_is
