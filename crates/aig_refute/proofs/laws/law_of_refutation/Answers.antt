use Rattle.aig_refute.proofs.UnreachableLemmas.{unreachable_within}
use Rattle.aig_refute.proofs.laws.law_of_refutation.Goals as goal

pub returns : goal.returns
returns c = λ raw formula k p circuit. unreachable_within raw formula circuit k p
