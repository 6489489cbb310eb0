use Rattle.std.proofs.Common.{◌∙◌}
use Rattle.aig_sim.proofs.VerdictLemmas.{start_same}
use Rattle.aig_sim.proofs.witness.WitnessRun.new.Goals as goal

pub returns-clause-states : goal.returns-clause-states
returns-clause-states c =
    let read = c.in_ok-start.ensures.read in
    λ w h. c.in_ok-new.ensures.states ∙ start_same c.in_ok-start.start.items read.0 h read.1
