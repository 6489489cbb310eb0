use Rattle.aig_c.proofs.refutations.aig_refute_certified.Goals as goal

pub returns-clause-unreachable : goal.returns-clause-unreachable
returns-clause-unreachable c = c.refute_by.ensures.says
