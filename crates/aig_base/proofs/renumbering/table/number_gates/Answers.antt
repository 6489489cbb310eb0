use Rattle.std.proofs.Common.{ap, length, arith}
use Rattle.aig_base.proofs.lists.Counting.{length-order}
use Rattle.aig_base.proofs.renumbered.Renumberings.{order_below, renumbering_more}
use Rattle.aig_base.proofs.renumbering.table.number_gates.Goals as goal

pub overflow_cast-table : goal.overflow_cast-table
overflow_cast-table c =
    let circuit = c.facts.ensures in
    let counts = circuit.formed.counts in
    omega (
      arith,
      length-order c.args.circuit.now circuit.sound c.args.order.now c.requires.order,
      ap length c.inputs.ensures,
      ap length c.latches.ensures,
      counts.inputs,
      counts.latches,
      counts.gates,
      c.loop-place-test.true,
    )

pub bounds-table-variable : goal.bounds-table-variable
bounds-table-variable c =
    let circuit = c.facts.ensures in
    omega (
      arith,
      order_below c.args.circuit.now circuit.sound c.args.order.now c.requires.order c.loop-place.place
          c.loop-place-test.true,
      c.loop-place.invariant.size,
    )

pub loop-place-preserved : goal.loop-place-preserved
loop-place-preserved c =
    let circuit = c.facts.ensures in
    renumbering_more c.args.circuit.now circuit.sound c.args.order.now c.requires.order c.loop-place.table
    c.loop-place.place _
    c.loop-place.invariant c.loop-place-test.true
    (omega (arith, ap length c.inputs.ensures, ap length c.latches.ensures))
