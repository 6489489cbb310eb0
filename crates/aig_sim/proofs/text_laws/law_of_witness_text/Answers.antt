use Rattle.aig_sim.proofs.WitnessLemmas.{one_witness}
use Rattle.aig_sim.proofs.text_laws.law_of_witness_text.Goals as goal

pub returns : goal.returns
returns c = record { one = one_witness }
