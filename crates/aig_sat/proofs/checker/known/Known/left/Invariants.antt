use Rattle.aig_sat.proofs.checking.LeftLemmas.{IsLeft, Leaves}
use Rattle.aig_sat.proofs.checker.known.Known.left.Given as goal

abbrev pub invariant-loop-literal : goal.invariant-loop-literal
invariant-loop-literal l = record {
  leaves : Leaves l.self.truths.items l.literals l.literal-index l.left;
  one : IsLeft l.self.truths.items l.literals l.literal-index l.left;
}
