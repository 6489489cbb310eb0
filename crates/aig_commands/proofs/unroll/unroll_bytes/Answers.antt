use Rattle.aig_bytes.specs.Flow.{flow}
use Rattle.aig_commands.specs.Unroll.{Unrolls}
use Rattle.aig_commands.proofs.GoodRuns.{file_goes_well}
use Rattle.aig_commands.proofs.unroll.unroll_bytes.Goals as goal
use Rattle.aig_command.proofs.Files.{answered, ends_of_file, file_refused}
use Rattle.aig_command.specs.Command.{OfFile}
use Rattle.aig_command.specs.Command.{CommandEnds}
use Rattle.aig_command.specs.declared.run_fault.RunFault.TheVariants as run_faults

pub returns-clause-ends : goal.returns-clause-ends
returns-clause-ends g c =
    ends_of_file (Unrolls c.args.frames c.args.to) c.in_ok-circuit.circuit (λ fault bytes h. h)
    (flow g.W.Write.written g.W.Write.failures c.args.out.now c.unroll_circuit.new.out) run_faults.Output c.args.circuit.now c.in_ok-circuit.ensures.circuit
    c.unroll_circuit.result c.unroll_circuit.ensures.ends

pub returns-in_err-circuit-clause-ends : goal.returns-in_err-circuit-clause-ends
returns-in_err-circuit-clause-ends g c =
    answered c.from_residual.result (run_faults.Circuit c.in_err-circuit.field-0.0)
    (CommandEnds (flow g.W.Write.written g.W.Write.failures c.args.out.now c.args.out.now) run_faults.Output (OfFile c.args.circuit.now (Unrolls c.args.frames c.args.to)))
    c.from_residual.ensures.1
    (file_refused g.W.Write.written g.W.Write.failures c.args.out.now run_faults.Output (Unrolls c.args.frames c.args.to) c.args.circuit.now c.in_err-circuit.field-0.0 c.in_err-circuit.ensures.fault)

pub returns-clause-output : goal.returns-clause-output
returns-clause-output g c = λ is.
    file_goes_well (Unrolls c.args.frames c.args.to) c.in_ok-circuit.circuit c.args.circuit.now c.in_ok-circuit.ensures.circuit
    (c.unroll_circuit.ensures.once.output is)
