use Rattle.std.proofs.Common.{◌≡◌, ◌+◌, length, map, take}
use Rattle.aig_parts.specs.Literal.{variable}
use Rattle.aig_values.specs.GateOrder.{AddsMarks}
use Rattle.aig_values.proofs.gate_order.mark_latches.Given as goal

abbrev pub invariant-loop-latch : goal.invariant-loop-latch
invariant-loop-latch l = record {
  size : length l.marks ≡ l.circuit.max_var + 1;
  added : AddsMarks (map (λ x. variable x.lit) (take l.latch-index l.circuit.latches)) l.fn.marks l.marks;
}
