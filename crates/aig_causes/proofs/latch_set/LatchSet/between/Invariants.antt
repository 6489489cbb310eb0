use Rattle.aig_causes.specs.Explanation.{AreNamedBetween}
use Rattle.aig_causes.proofs.latch_set.LatchSet.between.Given as goal

abbrev pub invariant-loop-position : goal.invariant-loop-position
invariant-loop-position l = AreNamedBetween l.self.flags.items l.first l.position l.latches.items
