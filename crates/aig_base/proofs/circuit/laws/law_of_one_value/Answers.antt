use Rattle.aig_base.proofs.values.OneValue.{have_one_value}
use Rattle.aig_base.proofs.circuit.laws.law_of_one_value.Goals as goal

pub returns : goal.returns
returns c = record { one = have_one_value }
