use Rattle.std.proofs.Common.{ℕ, List, drop}
use Rattle.aig_sat.specs.checker.Agreement.{Propagates}
use Rattle.aig_sat.specs.checker.Hints.{Shows}
use Rattle.aig_sat.specs.checker.Numbers.{AreKnown, Walks, numbered, variables}
use Rattle.aig_sat.proofs.checking.HintLemmas.{IsLeftToShow}
use Rattle.aig_sat.proofs.checker.propagator.Propagator.walk.Given as goal

abbrev pub invariant-loop-hint : goal.invariant-loop-hint
invariant-loop-hint l = record {
  propagates : Propagates l.initial.self l.self;
  walks : Walks l.initial.self l.self;
  shown : (truths : List ℕ) → AreKnown l.initial.self.known.truths.items truths
      → Shows (numbered l.initial.self) (variables l.initial.self) l.initial.self.looks truths l.hints
      → IsLeftToShow l.initial.self l.self (drop l.hint-index l.hints);
}
