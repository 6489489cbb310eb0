use Rattle.aig_refute.proofs.ExtensionLemmas.{unreachable_of_extension}
use Rattle.aig_refute.proofs.laws.law_of_extension.Goals as goal

pub returns : goal.returns
returns c = λ raw x p b circuit. unreachable_of_extension raw x p b circuit
