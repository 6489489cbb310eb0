use Rattle.std.proofs.Common.{◌≡◌, ℕ, ◌+◌, ◌<◌, ◌≤◌, length, get_or}
use Rattle.aig_sat.specs.checker.Agreement.{Narrows}
use Rattle.aig_sat.specs.checker.First.{IsSettled}
use Rattle.aig_sat.specs.checker.Listing.{FindsAll}
use Rattle.aig_sat.proofs.checker.checker.Checker.settles_found.Given as goal

abbrev pub invariant-loop-tried : goal.invariant-loop-tried
invariant-loop-tried l = record {
  same : l.self.refuted ≡ l.initial.self.refuted;
  narrows : Narrows l.initial.self.propagator l.self.propagator;
  count : l.count ≡ length l.self.candidates.items;
  finds : FindsAll l.self.propagator.clauses.words.items l.lie l.self.candidates.items;
  settled : (j : ℕ) → l.count ≤ j + l.tried → j < l.count
      → IsSettled l.initial.self.propagator l.self.propagator l.clause l.lie (get_or l.self.candidates.items j 0);
}
