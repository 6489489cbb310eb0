use Rattle.std.proofs.Common.{Ok, Err}
use Rattle.aig_bytes.specs.Flow.{flow}
use Rattle.aig_commands.proofs.Headers.{header_first}
use Rattle.aig_commands.proofs.Runs.{dumps_ends}
use Rattle.aig_commands.proofs.wave.run.Goals as goal

pub returns-in-Ok-clause-ends : goal.returns-in-Ok-clause-ends
returns-in-Ok-clause-ends g c =
    dumps_ends (flow g.R.Read.left g.R.Read.failures c.args.stimulus.now c.dump.new.reader)
    (flow g.W.Write.written g.W.Write.failures c.args.out.now c.dump.new.out) c.args.circuit.now (Ok c.in-Ok.frames) c.in-Ok.ensures.dumped

pub returns-in-Err-clause-ends : goal.returns-in-Err-clause-ends
returns-in-Err-clause-ends g c =
    dumps_ends (flow g.R.Read.left g.R.Read.failures c.args.stimulus.now c.dump.new.reader)
    (flow g.W.Write.written g.W.Write.failures c.args.out.now c.dump.new.out) c.args.circuit.now (Err c.in-Err.fault) c.in-Err.ensures.dumped

pub returns-in-Ok-clause-header : goal.returns-in-Ok-clause-header
returns-in-Ok-clause-header g c =
    header_first (flow g.R.Read.left g.R.Read.failures c.args.stimulus.now c.dump.new.reader)
    (flow g.W.Write.written g.W.Write.failures c.args.out.now c.dump.new.out) c.args.circuit.now (Ok c.in-Ok.frames) c.in-Ok.ensures.dumped

pub returns-in-Err-clause-header : goal.returns-in-Err-clause-header
returns-in-Err-clause-header g c =
    header_first (flow g.R.Read.left g.R.Read.failures c.args.stimulus.now c.dump.new.reader)
    (flow g.W.Write.written g.W.Write.failures c.args.out.now c.dump.new.out) c.args.circuit.now (Err c.in-Err.fault) c.in-Err.ensures.dumped
