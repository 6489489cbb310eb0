use Rattle.aig_cnf.proofs.PartCircuit.{part_circuit}
use Rattle.aig_refute.proofs.PartRuns.{part_broken, part_reached, part_unreachable}
use Rattle.aig_refute.proofs.read_part.law_of_read_part.Goals as goal

pub returns-clause-circuit : goal.returns-clause-circuit
returns-clause-circuit c = λ raw p bad test circuit is exact. part_circuit raw bad test exact circuit p is

pub returns-clause-reached : goal.returns-clause-reached
returns-clause-reached c = λ raw p bad k test is exact. part_reached raw bad test exact p is k

pub returns-clause-step : goal.returns-clause-step
returns-clause-step c = λ raw p bad k test is exact. part_broken raw bad test exact p is k

pub returns-clause-unreachable : goal.returns-clause-unreachable
returns-clause-unreachable c = λ raw p bad test is exact never. part_unreachable raw bad test exact p is never
