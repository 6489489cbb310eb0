use Rattle.std.proofs.Common.{◌≡◌}
use Rattle.aig_cnf.specs.Formula.{goals}
use Rattle.aig_cnf.proofs.formula.goals_of.Given as goal

abbrev pub invariant-loop-frame : goal.invariant-loop-frame
invariant-loop-frame l = l.found.items ≡ goals l.circuit l.bads l.frame l.property
