use Rattle.aig_sat.proofs.checking.RefutationLemmas.{follows_new}
use Rattle.aig_sat.proofs.checker.refutation.Refutation.with_hints.Goals as goal

pub returns-clause-follows : goal.returns-clause-follows
returns-clause-follows c = follows_new c.in_ok-new.field-0 c.in_ok-new.ensures.holds
