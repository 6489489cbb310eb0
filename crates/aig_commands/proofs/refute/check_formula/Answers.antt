use Rattle.std.proofs.Common.{subst}
use Rattle.aig_cnf.specs.Formula.{Cnf}
use Rattle.aig_sat.specs.checker.Consequence.{IsUnsatisfiable}
use Rattle.aig_commands.proofs.refute.check_formula.Goals as goal

pub returns-clause-checks : goal.returns-clause-checks
returns-clause-checks g c = (
  c.in_ok-read.ensures.accepted,
  (
    c.in_ok-read.read,
    c.in_ok-read.ensures.formula,
    subst (λ (f : Cnf). IsUnsatisfiable f.clauses) c.formula.ensures c.in_ok-check.ensures.refuted,
  ),
)
