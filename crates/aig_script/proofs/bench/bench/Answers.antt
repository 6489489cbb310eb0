use Rattle.std.proofs.Common.{refl}
use Rattle.aig_bytes.specs.Flow.{flow}
use Rattle.aig_command.proofs.Files.{answered}
use Rattle.aig_command.specs.declared.run_fault.RunFault.TheVariants as run_faults
use Rattle.aig_command.specs.Command.{EndsReading}
use Rattle.aig_script.specs.Bench.{LeavesBench}
use Rattle.aig_script.proofs.BenchEnds.{script_io, ran_ends, refused_ends, fault_ends, unchanged}
use Rattle.aig_script.proofs.bench.bench.Goals as goal

pub returns-in_err-bench-clause-ends : goal.returns-in_err-bench-clause-ends
returns-in_err-bench-clause-ends g c =
    let reader = flow g.R.Read.left g.R.Read.failures c.args.script.now c.args.script.now in
    let out = flow g.W.Write.written g.W.Write.failures c.args.out.now c.args.out.now in
    let circuit = c.args.circuit.now in
    let stimulus = c.args.stimulus.now in
    let fault = c.in_err-bench.field-0.0 in
    answered c.from_residual.result fault (EndsReading reader out script_io (LeavesBench circuit stimulus)) c.from_residual.ensures.1
    (refused_ends reader out circuit stimulus fault c.in_err-bench.ensures.fault refl refl)

pub returns-in_err-run_script-clause-ends : goal.returns-in_err-run_script-clause-ends
returns-in_err-run_script-clause-ends g c =
    let reader = flow g.R.Read.left g.R.Read.failures c.args.script.now c.run_script.new.reader in
    let out = flow g.W.Write.written g.W.Write.failures c.args.out.now c.run_script.new.out in
    let circuit = c.args.circuit.now in
    let stimulus = c.args.stimulus.now in
    let fault = c.in_err-run_script.field-0.0 in
    let h = c.in_err-run_script.ensures in
    answered c.from_residual-in_err-run_script.result (run_faults.Script fault)
    (EndsReading reader out script_io (LeavesBench circuit stimulus))
    c.from_residual-in_err-run_script.ensures.1
    (fault_ends reader out circuit stimulus c.in_ok-bench.bench.pair c.run_script.new.bench c.in_ok-bench.ensures.bench fault h.io
    (λ is. let m = h.memory is in (m.0, m.1)))

pub returns-in_err-run_script-clause-refused : goal.returns-in_err-run_script-clause-refused
returns-in_err-run_script-clause-refused g c =
    unchanged c.from_residual-in_err-run_script.result c.in_err-run_script.field-0.0 _ c.from_residual-in_err-run_script.ensures.1
    (λ is. let m = c.in_err-run_script.ensures.memory is in (m.0, m.1))

pub returns-clause-ends : goal.returns-clause-ends
returns-clause-ends g c =
    ran_ends (flow g.R.Read.left g.R.Read.failures c.args.script.now c.run_script.new.reader)
    (flow g.W.Write.written g.W.Write.failures c.args.out.now c.run_script.new.out) c.args.circuit.now c.args.stimulus.now
    c.in_ok-bench.bench.pair c.run_script.new.bench c.in_ok-bench.ensures.bench c.in_ok-run_script.ensures.replies
