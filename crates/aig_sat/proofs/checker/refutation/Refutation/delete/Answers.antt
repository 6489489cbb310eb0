use Rattle.std.proofs.Common.{ℕ, List, ap, subst}
use Rattle.aig_sat.specs.checker.Consequence.{Follows}
use Rattle.aig_sat.proofs.checking.RefutationLemmas.{clauses_of, follows_holding, formula}
use Rattle.aig_sat.proofs.checker.refutation.Refutation.delete.Goals as goal

pub returns : goal.returns
returns c =
    subst (λ (x : List (List ℕ)). Follows x (formula c.delete.new.self)) (ap clauses_of c.self.view_is)
    (follows_holding c.self.inside.checker c.delete.new.self c.delete.ensures)
