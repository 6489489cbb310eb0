use Rattle.std.proofs.Common.{◌≡◌, length}
use Rattle.aig_sim.specs.state.Running.{HasRowRoom, ReadSoFar}
use Rattle.aig_sim.proofs.simulation.Simulation.run.Given as goal

abbrev pub invariant-loop-reader : goal.invariant-loop-reader
invariant-loop-reader g l = record {
  size : length l.chunk ≡ 16384;
  room : HasRowRoom g.T.Recorder.fits l.self;
  so_far : ReadSoFar g.T.Recorder.is_text g.T.Recorder.has_recorded l.initial.self.machine.circuit
      (g.R.Read.left l.initial.reader) (g.R.Read.left l.reader)
      (g.R.Read.failures l.initial.reader) (g.R.Read.failures l.reader)
      (g.W.Write.written l.initial.out) (g.W.Write.failures l.initial.out) l.self (g.W.Write.written l.out)
      (g.W.Write.failures l.out);
}

abbrev pub decreases-loop-reader : goal.decreases-loop-reader
decreases-loop-reader g l = g.R.Read.reads_left l.reader
