use Rattle.std.proofs.Common.{refl, subst}
use Rattle.aig_base.specs.Circuit.{IsCircuit}
use Rattle.aig_sim.proofs.ReplayLemmas.{ready_of}
use Rattle.aig_sim.proofs.witness.replay.begun.Goals as goal

pub returns-clause-ready : goal.returns-clause-ready
returns-clause-ready c =
    let (w, spells, parts, admitted) = c.in_ok-parts.ensures.parts in
    let e = c.in_ok-run.ensures in
    (w, spells, ready_of parts admitted refl (subst IsCircuit e.circuit e.is_circuit) (e.states w parts))
