use Rattle.aig_sat.specs.checker.Consequence.{Follows}
use Rattle.aig_refute.proofs.proof.delete_clauses.Given as goal

abbrev pub invariant-loop-number : goal.invariant-loop-number
invariant-loop-number l = Follows l.initial.refutation.clauses l.refutation.clauses
