use Rattle.std.proofs.Common.{◌≡◌, ◌+◌, length, map, take}
use Rattle.aig_parts.specs.Literal.{variable}
use Rattle.aig_values.specs.GateOrder.{AddsMarks}
use Rattle.aig_values.proofs.gate_order.mark_inputs.Given as goal

abbrev pub invariant-loop-input : goal.invariant-loop-input
invariant-loop-input l = record {
  size : length l.marks ≡ l.circuit.max_var + 1;
  added : AddsMarks (map variable (take l.input-index l.circuit.inputs)) l.fn.marks l.marks;
}
