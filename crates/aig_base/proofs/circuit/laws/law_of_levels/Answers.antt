use Rattle.aig_base.proofs.levels.OneLevel.{level_of, Grounded-of_level, same_level}
use Rattle.aig_base.proofs.levels.OneOrder.{one_order}
use Rattle.aig_base.proofs.circuit.laws.law_of_levels.Goals as goal

pub returns-clause-level : goal.returns-clause-level
returns-clause-level c = λ raw v. level_of

pub returns-clause-grounded : goal.returns-clause-grounded
returns-clause-grounded c = λ raw v n. Grounded-of_level

pub returns-clause-one : goal.returns-clause-one
returns-clause-one c = λ raw v m n. same_level

pub returns-clause-order : goal.returns-clause-order
returns-clause-order c = λ raw a b s. one_order raw s a b
