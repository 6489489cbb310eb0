use Rattle.std.proofs.Common.{Ok, Err}
use Rattle.aig_bytes.specs.Flow.{flow}
use Rattle.aig_commands.proofs.Runs.{simulates_ends}
use Rattle.aig_commands.proofs.sim.run.Goals as goal

pub returns-in-Ok-clause-ends : goal.returns-in-Ok-clause-ends
returns-in-Ok-clause-ends g c =
    simulates_ends (flow g.R.Read.left g.R.Read.failures c.args.stimulus.now c.simulate.new.reader)
    (flow g.W.Write.written g.W.Write.failures c.args.out.now c.simulate.new.out) c.args.circuit.now (Ok c.in-Ok.frames) c.in-Ok.ensures.simulated

pub returns-in-Err-clause-ends : goal.returns-in-Err-clause-ends
returns-in-Err-clause-ends g c =
    simulates_ends (flow g.R.Read.left g.R.Read.failures c.args.stimulus.now c.simulate.new.reader)
    (flow g.W.Write.written g.W.Write.failures c.args.out.now c.simulate.new.out) c.args.circuit.now (Err c.in-Err.fault) c.in-Err.ensures.simulated
