use Rattle.aig_values.proofs.WordBits.{group_one, group_zero}
use Rattle.aig_values.proofs.row.planes.group_of.Goals as goal

pub returns-clause-one : goal.returns-clause-one
returns-clause-one c k lt = group_one c.args.bits k lt

pub returns-clause-zero : goal.returns-clause-zero
returns-clause-zero c k lt = group_zero c.args.bits k lt
