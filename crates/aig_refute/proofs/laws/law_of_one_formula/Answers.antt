use Rattle.aig_refute.proofs.OneFormula.{by_one_formula}
use Rattle.aig_refute.proofs.laws.law_of_one_formula.Goals as goal

pub returns : goal.returns
returns c = λ raw formula k p circuit. by_one_formula raw formula circuit k p
