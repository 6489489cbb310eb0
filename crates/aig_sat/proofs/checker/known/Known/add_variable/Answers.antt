use Rattle.aig_sat.proofs.checking.ForgetLemmas.{added_known}
use Rattle.aig_sat.proofs.checker.known.Known.add_variable.Goals as goal

pub returns-clause-fewer : goal.returns-clause-fewer
returns-clause-fewer c = added_known _ _ _ c.extend_from_slice.ensures.items
