use Rattle.aig_base.proofs.values.Refined.{kept}
use Rattle.aig_base.proofs.circuit.laws.law_of_completion.Goals as goal

pub returns : goal.returns
returns c = record { stays = λ raw start start' rows rows' h t l w. kept raw start start' rows rows' h }
