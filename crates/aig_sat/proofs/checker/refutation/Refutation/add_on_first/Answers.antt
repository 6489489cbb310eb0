use Rattle.std.proofs.Common.{ℕ, List, ◌∷◌, ap, subst}
use Rattle.aig_sat.specs.checker.Consequence.{Follows, KeepsSatisfiable}
use Rattle.aig_sat.proofs.checking.RefutationLemmas.{clauses_of, follows_meeting, formula, keeps_holding, refused_pulled}
use Rattle.aig_sat.proofs.checker.refutation.Refutation.add_on_first.Goals as goal

pub returns-clause-keeps : goal.returns-clause-keeps
returns-clause-keeps c =
    subst (λ (x : List (List ℕ)). KeepsSatisfiable x (formula c.add_on_first.new.self)) (ap clauses_of c.self.view_is)
    (keeps_holding c.self.inside.checker c.add_on_first.new.self c.add_on_first.ensures.keeps)

pub returns-clause-stands : goal.returns-clause-stands
returns-clause-stands c =
    subst (λ (x : List (List ℕ)). Follows (c.args.clause.now ∷ x) (formula c.add_on_first.new.self)) (ap clauses_of c.self.view_is)
    (follows_meeting c.args.clause.now c.self.inside.checker c.add_on_first.new.self c.add_on_first.ensures.stands)

pub returns-clause-refused : goal.returns-clause-refused
returns-clause-refused c =
    refused_pulled c.add_on_first.result c.self.inside.checker c.add_on_first.new.self c.args.self.now.clauses (ap clauses_of c.self.view_is)
    c.add_on_first.ensures.refused
