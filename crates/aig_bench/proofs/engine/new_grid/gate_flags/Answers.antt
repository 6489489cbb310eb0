use Rattle.aig_base.proofs.circuits.Gates.{found_decides}
use Rattle.aig_bench.proofs.cells.NewGrids.{flags_more}
use Rattle.aig_bench.proofs.engine.new_grid.gate_flags.Goals as goal

pub loop-variable-preserved : goal.loop-variable-preserved
loop-variable-preserved c =
    rw c.in_ok-push.ensures.items
    (flags_more c.args.circuit.now c.loop-variable.variable c.loop-variable.flags.items c.is_some.result
    c.loop-variable.invariant
    (rw c.is_some.ensures (found_decides c.args.circuit.now c.loop-variable.variable c.gate_of.result
    c.gate_of.ensures.found c.gate_of.ensures.none)))
