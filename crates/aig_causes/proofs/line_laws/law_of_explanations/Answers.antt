use Rattle.aig_causes.proofs.Explanations.{together}
use Rattle.aig_causes.proofs.line_laws.law_of_explanations.Goals as goal

pub returns : goal.returns
returns c = λ raw literals asked m frames circuit h. together raw circuit literals asked m frames h
