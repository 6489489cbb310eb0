use Rattle.aig_refute.proofs.NoRuns.{no_run}
use Rattle.aig_refute.proofs.laws.law_of_alive.Goals as goal

pub returns : goal.returns
returns c = λ raw formula k circuit. no_run raw formula circuit k
