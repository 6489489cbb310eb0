use Rattle.aig_base.proofs.circuits.Gates.{defined_if_found}
use Rattle.aig_tests.proofs.calls.rewires.is_defined.Goals as goal

pub returns : goal.returns
returns c =
    rw c.is_some.ensures (rw c.var.ensures at (defined_if_found c.args.circuit.now c.var.result _
    c.definition.ensures.found))
