use Rattle.aig_bench.proofs.queues.Slots.{SlotsTo}
use Rattle.aig_bench.proofs.propagate.waiting.Waiting.of.Given as goal

abbrev pub invariant-loop-variable : goal.invariant-loop-variable
invariant-loop-variable l = SlotsTo l.circuit l.levels l.variable l.slots.items
