use Rattle.aig_unroll.proofs.InputMapLaw.{all_inputs}
use Rattle.aig_unroll.proofs.unrolling.laws.law_of_input_map.Goals as goal

pub returns : goal.returns
returns c = λ raw order k circuit canonical. all_inputs raw circuit order canonical k
