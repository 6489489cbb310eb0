use Rattle.std.proofs.Common.{◌-◌, ◌≤◌, length}
use Rattle.aig_sat.specs.checker.Entries.{IsBetween, ids}
use Rattle.aig_sat.proofs.checker.ids.Ids.search.Given as goal

abbrev pub invariant-loop-low : goal.invariant-loop-low
invariant-loop-low l = record {
  inside : l.high ≤ length l.self.entries.items - 1;
  between : IsBetween (ids l.self.entries.items) l.id l.low l.high;
}

abbrev pub decreases-loop-low : goal.decreases-loop-low
decreases-loop-low l = l.high - l.low
