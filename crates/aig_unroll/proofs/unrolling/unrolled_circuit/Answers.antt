use Rattle.std.proofs.Common.{◌∙◌}
use Rattle.aig_unroll.proofs.UnrolledCircuit.{unrolled_circuit}
use Rattle.aig_unroll.proofs.UnrolledReady.{unrolled_ready}
use Rattle.aig_unroll.proofs.unrolling.unrolled_circuit.Goals as goal

pub of_ready-requires-clause-circuit : goal.of_ready-requires-clause-circuit
of_ready-requires-clause-circuit c =
    let is = rw c.deref.ensures.value at c.in_ok-parts.ensures in
    rw is (unrolled_circuit c.args.circuit.now c.facts.ensures c.in_ok-order.order.items
    c.in_ok-order.ensures c.args.frames c.requires.fits)

pub of_ready-requires-clause-ready : goal.of_ready-requires-clause-ready
of_ready-requires-clause-ready c =
    let is = rw c.deref.ensures.value at c.in_ok-parts.ensures in
    rw is (unrolled_ready c.args.circuit.now c.facts.ensures c.in_ok-order.order.items
    c.in_ok-order.ensures c.args.frames)

pub returns-clause-ready : goal.returns-clause-ready
returns-clause-ready c =
    let is = rw c.deref.ensures.value at c.in_ok-parts.ensures in
    let e = c.of_ready.ensures ∙ is in
    rw e (unrolled_ready c.args.circuit.now c.facts.ensures c.in_ok-order.order.items
    c.in_ok-order.ensures c.args.frames)
