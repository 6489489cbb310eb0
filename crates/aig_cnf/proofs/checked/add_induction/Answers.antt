use Rattle.aig_cnf.proofs.AddedLemmas.{adds_part, adds_then}
use Rattle.aig_cnf.proofs.NumberedLemmas.{err_on_ok, numbers_then, on_ok_then}
use Rattle.aig_cnf.proofs.checked.add_induction.Goals as goal

pub returns-in_err-add-clause-adds : goal.returns-in_err-add-clause-adds
returns-in_err-add-clause-adds c = adds_part _ c.in_err-add.ensures.adds

pub returns-clause-adds : goal.returns-clause-adds
returns-clause-adds c = adds_then c.in_ok-add.ensures.adds c.add_starts.ensures.adds

pub returns-in_err-add-clause-numbered : goal.returns-in_err-add-clause-numbered
returns-in_err-add-clause-numbered c = err_on_ok c.from_residual.result _ _ c.from_residual.ensures.1

pub returns-clause-numbered : goal.returns-clause-numbered
returns-clause-numbered c =
    on_ok_then c.add_starts.result _ _ (numbers_then c.in_ok-add.ensures.numbered) c.add_starts.ensures.numbered
