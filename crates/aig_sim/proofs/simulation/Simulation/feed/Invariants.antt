use Rattle.std.proofs.Common.{◌-◌, ◌≤◌, length, take}
use Rattle.aig_sim.specs.state.Running.{HasRowRoom, SimulationGoesOn}
use Rattle.aig_sim.proofs.simulation.Simulation.feed.Given as goal

abbrev pub invariant-loop-at : goal.invariant-loop-at
invariant-loop-at g l = record {
  inside : l.at ≤ length l.chunk;
  room : HasRowRoom g.T.Recorder.fits l.self;
  goes_on : SimulationGoesOn g.T.Recorder.is_text g.T.Recorder.has_recorded (take l.at l.chunk) l.initial.self l.self
      (g.W.Write.written l.initial.out) (g.W.Write.written l.out) (g.W.Write.failures l.initial.out)
      (g.W.Write.failures l.out);
}

abbrev pub decreases-loop-at : goal.decreases-loop-at
decreases-loop-at g l = length l.chunk - l.at
