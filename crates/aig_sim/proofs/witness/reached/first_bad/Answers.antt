use Rattle.aig_sim.proofs.ReachedLemmas.{none_more}
use Rattle.aig_sim.proofs.witness.reached.first_bad.Goals as goal

pub loop-position-preserved : goal.loop-position-preserved
loop-position-preserved c =
    let m = c.args.machine.now in
    none_more m.cells m.circuit.bad c.loop-position.position c.loop-position.invariant
    (c.is_bad.ensures.no c.if-is_bad.false)
