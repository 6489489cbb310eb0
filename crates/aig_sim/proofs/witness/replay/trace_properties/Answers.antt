use Rattle.aig_sim.proofs.RunTexts.{properties_go_on}
use Rattle.aig_sim.proofs.witness.replay.trace_properties.Goals as goal

pub replay-requires-clause-unjudged : goal.replay-requires-clause-unjudged
replay-requires-clause-unjudged g c raw start = c.new-judging.ensures.judged raw start

pub replay-requires-clause-goes_on : goal.replay-requires-clause-goes_on
replay-requires-clause-goes_on g c w circuit fits = properties_go_on c.args.circuit.now circuit w.start w.rows fits
