use Rattle.std.proofs.Common.{◌∙◌}
use Rattle.aig_cnf.proofs.AddedLemmas.{follows_all}
use Rattle.aig_cnf.proofs.NumberedLemmas.{numbers_formula}
use Rattle.aig_cnf.proofs.formula.Formula.refutation.Goals as goal

pub returns-clause-follows : goal.returns-clause-follows
returns-clause-follows c = follows_all _ _ _ c.in_ok-refutation.ensures.follows c.in_ok-add_all.ensures.adds

pub returns-clause-numbered : goal.returns-clause-numbered
returns-clause-numbered c = λ hinted.
    let begun = c.in_ok-refutation.ensures.begins hinted in
    numbers_formula _ _ _ _ begun.0 begun.1 (begun.2 ∙ c.variables.ensures.count) c.in_ok-add_all.ensures.numbered
