use Rattle.aig_cnf.proofs.DimacsLaw.{reads_alive, reads_read}
use Rattle.aig_cnf.proofs.laws.law_of_dimacs.Goals as goal

pub returns : goal.returns
returns c = record { found = reads_read; alive = reads_alive }
