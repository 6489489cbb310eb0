use Rattle.aig_bytes.specs.Flow.{flow}
use Rattle.aig_commands.specs.Toaig.{Converts}
use Rattle.aig_commands.proofs.toaig.convert.Goals as goal
use Rattle.aig_command.proofs.Files.{answered, ends_of_file, file_refused}
use Rattle.aig_command.specs.Command.{OfFile}
use Rattle.aig_command.specs.Command.{CommandEnds}
use Rattle.aig_command.specs.declared.run_fault.RunFault.TheVariants as run_faults

pub returns-clause-ends : goal.returns-clause-ends
returns-clause-ends g c =
    ends_of_file (Converts c.args.to) c.in_ok-circuit.circuit (λ fault bytes h. h)
    (flow g.W.Write.written g.W.Write.failures c.args.out.now c.write_converted.new.out) run_faults.Output c.args.file.now c.in_ok-circuit.ensures.circuit
    c.write_converted.result c.write_converted.ensures.ends

pub returns-in_err-circuit-clause-ends : goal.returns-in_err-circuit-clause-ends
returns-in_err-circuit-clause-ends g c =
    answered c.from_residual.result (run_faults.Circuit c.in_err-circuit.field-0.0)
    (CommandEnds (flow g.W.Write.written g.W.Write.failures c.args.out.now c.args.out.now) run_faults.Output (OfFile c.args.file.now (Converts c.args.to)))
    c.from_residual.ensures.1
    (file_refused g.W.Write.written g.W.Write.failures c.args.out.now run_faults.Output (Converts c.args.to) c.args.file.now c.in_err-circuit.field-0.0 c.in_err-circuit.ensures.fault)
