use Rattle.aig_cut.proofs.CutCircuit.{cut_by_text_circuit}
use Rattle.aig_cut.proofs.CutsAre.{cut_by_text}
use Rattle.aig_cut.proofs.laws.law_of_what_is_written.Goals as goal

pub returns-clause-cut : goal.returns-clause-cut
returns-clause-cut c = cut_by_text

pub returns-clause-circuit : goal.returns-clause-circuit
returns-clause-circuit c = cut_by_text_circuit
