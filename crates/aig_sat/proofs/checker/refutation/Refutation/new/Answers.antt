use Rattle.aig_sat.proofs.checking.RefutationLemmas.{follows_new}
use Rattle.aig_sat.proofs.checker.refutation.Refutation.new.Goals as goal

-- src/refutation.rt:32:5
pub returns : goal.returns
returns c = follows_new c.in_ok-new.field-0 c.in_ok-new.ensures.holds
