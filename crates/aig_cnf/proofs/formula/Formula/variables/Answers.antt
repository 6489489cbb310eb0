use Rattle.std.proofs.Common.{arith}
use Rattle.aig_cnf.proofs.formula.Formula.variables.Goals as goal

pub returns-clause-few : goal.returns-clause-few
returns-clause-few c = omega (arith, c.self.invariant.variables_fit)
