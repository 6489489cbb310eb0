use Rattle.aig_refute.proofs.InductionLemmas.{by_induction}
use Rattle.aig_refute.proofs.laws.law_of_induction.Goals as goal

pub returns : goal.returns
returns c = λ raw base later k p circuit. by_induction raw base later circuit k p
