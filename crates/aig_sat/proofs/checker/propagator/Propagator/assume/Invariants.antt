use Rattle.std.proofs.Common.{◌≡◌}
use Rattle.aig_sat.specs.checker.Agreement.{Assumes}
use Rattle.aig_sat.specs.checker.Numbers.{Walks}
use Rattle.aig_sat.proofs.checking.HintLemmas.{AreAssumed}
use Rattle.aig_sat.proofs.checker.propagator.Propagator.assume.Given as goal

abbrev pub invariant-loop-literal : goal.invariant-loop-literal
invariant-loop-literal l = record {
  assumes : Assumes l.clause l.initial.self l.self;
  walks : Walks l.initial.self l.self;
  looks : l.self.looks ≡ l.initial.self.looks;
  known : AreAssumed l.initial.self l.self.known.truths.items l.clause l.literal-index;
}
