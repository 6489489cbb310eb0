use Rattle.aig_bench.proofs.cells.Definitions.{defined_by}
use Rattle.aig_bench.proofs.edit.allowed.is_defined.Goals as goal

pub returns-else-variable-eq0 : goal.returns-else-variable-eq0
returns-else-variable-eq0 c =
    rw c.is_some.ensures (defined_by c.args.circuit.now c.args.variable c.definition.result
    c.if-variable-eq0.false c.definition.ensures.found c.definition.ensures.none)
