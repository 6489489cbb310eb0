use Rattle.aig_cnf.proofs.AddedLemmas.{adds_one}
use Rattle.aig_cnf.proofs.NumberedLemmas.{on_ok_numbers}
use Rattle.aig_cnf.proofs.checked.add.Goals as goal

pub returns-clause-adds : goal.returns-clause-adds
returns-clause-adds c = adds_one _ _ _ c.add_clause.ensures.follows

pub returns-clause-numbered : goal.returns-clause-numbered
returns-clause-numbered c =
    on_ok_numbers c.add_clause.result c.args.clause.now c.args.refutation.now c.add_clause.new.self c.add_clause.ensures.numbered
