use Rattle.std.proofs.Common.{Err, Ok}
use Rattle.aig_bytes.specs.Flow.{flow}
use Rattle.aig_command.proofs.Files.{answered}
use Rattle.aig_command.specs.Command.{EndsReading}
use Rattle.aig_script.specs.Bench.{RunsScript}
use Rattle.aig_script.proofs.BenchEnds.{script_io, ends_without}
use Rattle.aig_script.proofs.bench.run_bench.Goals as goal

pub returns-in_err-_left-clause-ends : goal.returns-in_err-_left-clause-ends
returns-in_err-_left-clause-ends g c =
    let reader = flow g.R.Read.left g.R.Read.failures c.args.script.now c.bench.new.script in
    let out = flow g.W.Write.written g.W.Write.failures c.args.out.now c.bench.new.out in
    let circuit = c.args.circuit.now in
    let stimulus = c.args.stimulus.now in
    let fault = c.in_err-_left.field-0.0 in
    answered c.from_residual.result fault (EndsReading reader out script_io (RunsScript circuit stimulus)) c.from_residual.ensures.1
    (ends_without reader out circuit stimulus script_io (Err fault) c.in_err-_left.ensures.ends)

pub returns-clause-ends : goal.returns-clause-ends
returns-clause-ends g c =
    let reader = flow g.R.Read.left g.R.Read.failures c.args.script.now c.bench.new.script in
    let out = flow g.W.Write.written g.W.Write.failures c.args.out.now c.bench.new.out in
    ends_without reader out c.args.circuit.now c.args.stimulus.now script_io (Ok c.in_ok-_left._left) c.in_ok-_left.ensures.ends
