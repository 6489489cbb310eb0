use Rattle.aig_base.proofs.circuits.Gates.{input_no_gate, latch_no_gate, free_no_gate}
use Rattle.aig_unroll.proofs.unrolling.numbers.position_of.Goals as goal

pub unreachable-requires : goal.unreachable-requires
unreachable-requires c =
    input_no_gate c.args.circuit.now c.facts.ensures.sound c.args.variable c.in-Some-Input.field-0-0
    (rw c.in-Some-Input.field-0-is at c.in-Some-Input.ensures.found) c.requires

pub unreachable-requires-in-Some-Latch : goal.unreachable-requires-in-Some-Latch
unreachable-requires-in-Some-Latch c =
    latch_no_gate c.args.circuit.now c.facts.ensures.sound c.args.variable c.in-Some-Latch.field-0-0
    (rw c.in-Some-Latch.field-0-is at c.in-Some-Latch.ensures.found) c.requires

pub unreachable-requires-in-None : goal.unreachable-requires-in-None
unreachable-requires-in-None c = free_no_gate c.args.circuit.now c.args.variable c.in-None.ensures.none c.requires
