use Rattle.std.proofs.Common.{take}
use Rattle.aig_values.specs.GateOrder.{AreGatesOf}
use Rattle.aig_bench.proofs.engine.sweep_order.gates_of.Given as goal

abbrev pub invariant-loop-variable : goal.invariant-loop-variable
invariant-loop-variable l = AreGatesOf l.circuit (take l.variable-index l.variables) l.gates.items
