use Rattle.std.proofs.Common.{ap, subst}
use Rattle.aig_sat.specs.checker.Basis.{Basis}
use Rattle.aig_sat.specs.checker.Consequence.{IsUnsatisfiable}
use Rattle.aig_sat.proofs.checking.RefutationLemmas.{clauses_of, unsatisfiable}
use Rattle.aig_sat.proofs.checker.refutation.Refutation.is_refuted.Goals as goal

pub returns-clause-refuted : goal.returns-clause-refuted
returns-clause-refuted c = λ t. subst IsUnsatisfiable (ap clauses_of c.self.view_is) (unsatisfiable c.self.inside.checker t)

pub returns-clause-same : goal.returns-clause-same
returns-clause-same c = ap (λ (b : Basis). b.is_refuted) c.self.view_is
