use Rattle.std.proofs.Common.{◌≡◌, List, ℕ, Option}
use Rattle.aig_sat.specs.checker.Consequence.{KeepsSatisfiable}
use Rattle.aig_refute.specs.state.Reading.{BeginsAll}
use Rattle.aig_refute.proofs.EitherProofs.{ReadBefore}
use Rattle.aig_refute.proofs.proof.check_steps.Given as goal

abbrev pub invariant-loop-number : goal.invariant-loop-number
invariant-loop-number g l = record {
  keeps : KeepsSatisfiable l.initial.refutation.clauses l.refutation.clauses;
  count : g.R.Read.failures l.proof ≡ g.R.Read.failures l.initial.proof;
  steps : (whole : Option (List ℕ)) → BeginsAll l.initial.steps.block whole (g.R.Read.left l.initial.proof)
      → ReadBefore l.is_hinted l.steps whole (g.R.Read.left l.proof) l.number;
}
