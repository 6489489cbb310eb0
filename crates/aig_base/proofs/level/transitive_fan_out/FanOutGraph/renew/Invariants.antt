use Rattle.std.proofs.Common.{◌≡◌, ◌+◌, length, not, count_by}
use Rattle.aig_base.proofs.rewires.Passes.{IsPass}
use Rattle.aig_base.proofs.level.transitive_fan_out.FanOutGraph.renew.Given as goal

abbrev pub invariant-loop-variable : goal.invariant-loop-variable
invariant-loop-variable g l = record {
  pass : IsPass l.self.circuit.now l.changed.lhs l.changed.rhs0 l.changed.rhs1 l.fn.levels l.levels l.worklist.visits l.worklist.queue;
  copy : g.C.LevelCopy.has l.copy l.levels;
  rest : g.C.LevelCopy.rest l.copy ≡ g.C.LevelCopy.rest l.fn.copy;
}

-- how many wait, and how many were not visited
abbrev pub decreases-loop-variable : goal.decreases-loop-variable
decreases-loop-variable g l = length l.worklist.queue.entries + count_by not l.worklist.visits.met.items
