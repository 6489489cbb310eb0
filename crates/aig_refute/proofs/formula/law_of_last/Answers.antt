use Rattle.aig_refute.proofs.AliveFormula.{exactly_alive}
use Rattle.aig_refute.proofs.LastFormula.{last_reached}
use Rattle.aig_refute.proofs.formula.law_of_last.Goals as goal

pub returns-clause-reached : goal.returns-clause-reached
returns-clause-reached c = last_reached

pub returns-clause-alive : goal.returns-clause-alive
returns-clause-alive c = exactly_alive
