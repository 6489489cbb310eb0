use Rattle.std.proofs.Common.{◌+◌, ◌-◌, length, not, count_by}
use Rattle.aig_base.proofs.rewires.Searches.{IsFanOutSearch}
use Rattle.aig_base.proofs.level.transitive_fan_out.FanOutGraph.search.Given as goal

abbrev pub invariant-loop-next : goal.invariant-loop-next
invariant-loop-next l =
    IsFanOutSearch l.self.circuit.now l.gate l.sought.first l.sought.second l.sought.bound l.fn.visits l.visits l.next

-- how many were not visited, and how many were visited and not looked at
abbrev pub decreases-loop-next : goal.decreases-loop-next
decreases-loop-next l = length l.visits.list.items + count_by not l.visits.met.items - l.next
