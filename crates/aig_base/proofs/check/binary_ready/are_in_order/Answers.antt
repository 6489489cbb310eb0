use Rattle.aig_base.proofs.lists.Evens.{apart, joined}
use Rattle.aig_base.proofs.check.binary_ready.are_in_order.Goals as goal

pub returns-then-keeps_order : goal.returns-then-keeps_order
returns-then-keeps_order c = (c.keeps_order.ensures, λ h. c.if-keeps_order.true)

pub returns-else-keeps_order : goal.returns-else-keeps_order
returns-else-keeps_order c =
    let raw = c.args.circuit.now in
    let test = rw (c.inputs.ensures, c.latches.ensures, c.gates-gates.ensures, c.max_var-max_var.ensures.value) at
    c.definitions_in_order.ensures in
    (λ h. joined raw (test.0 h), λ h. test.1 (apart raw h))
