use Rattle.aig_c.proofs.refutations.aig_refute_alive.Goals as goal

pub returns-clause-no_run : goal.returns-clause-no_run
returns-clause-no_run c = c.refute_by.ensures.says
