use Rattle.std.proofs.Common.{ℕ, List, ◌∷◌, ap, subst, ◌∙◌}
use Rattle.aig_sat.specs.checker.Basis.{Basis, TakesNumber, basis}
use Rattle.aig_sat.specs.checker.Consequence.{Follows}
use Rattle.aig_sat.proofs.checking.NumberLemmas.{on_ok_then}
use Rattle.aig_sat.proofs.checking.RefutationLemmas.{clauses_of, follows_meeting, formula}
use Rattle.aig_sat.proofs.checker.refutation.Refutation.add_clause.Goals as goal

pub returns-clause-follows : goal.returns-clause-follows
returns-clause-follows c =
    subst (λ (x : List (List ℕ)). Follows (c.args.clause.now ∷ x) (formula c.add_clause.new.self)) (ap clauses_of c.self.view_is)
    (follows_meeting c.args.clause.now c.self.inside.checker c.add_clause.new.self c.add_clause.ensures.meeting)

pub returns-clause-numbered : goal.returns-clause-numbered
returns-clause-numbered c = λ hinted.
    on_ok_then c.add_clause.result _ _
    (subst (λ (x : Basis). TakesNumber c.args.clause.now x (basis c.add_clause.new.self)) c.self.view_is)
    (c.add_clause.ensures.numbered (ap (λ (b : Basis). b.is_hinted) c.self.view_is ∙ hinted))
