use Rattle.aig_sat.proofs.checking.ForgetLemmas.{AreForgotten}
use Rattle.aig_sat.proofs.checker.known.forget.Given as goal

abbrev pub invariant-loop-literal : goal.invariant-loop-literal
invariant-loop-literal l = AreForgotten l.initial.truths.items l.truths.items l.list l.literal-index
