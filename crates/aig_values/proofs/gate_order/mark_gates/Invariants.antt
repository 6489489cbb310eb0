use Rattle.std.proofs.Common.{◌≡◌, ◌+◌, length}
use Rattle.aig_values.proofs.GateOrders.{AreReady}
use Rattle.aig_values.proofs.gate_order.mark_gates.Given as goal

abbrev pub invariant-loop-gate : goal.invariant-loop-gate
invariant-loop-gate l = record {
  size : length l.marks ≡ l.circuit.max_var + 1;
  ready : AreReady l.circuit l.gate-index l.marks;
}
