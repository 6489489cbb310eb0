use Rattle.aig_bytes.specs.Flow.{flow}
use Rattle.aig_commands.specs.Witness.{WritesWitness}
use Rattle.aig_commands.proofs.witness.witness.Goals as goal
use Rattle.aig_command.proofs.Files.{answered, ends_of_file, file_refused}
use Rattle.aig_command.specs.Command.{OfFile}
use Rattle.aig_command.specs.Command.{CommandEnds}
use Rattle.aig_command.specs.declared.run_fault.RunFault.TheVariants as run_faults

pub returns : goal.returns
returns g c =
    record {
      ends =
          ends_of_file (WritesWitness c.args.asked c.args.stimulus.now) c.in_ok-circuit.circuit (λ fault bytes h. h)
          (flow g.W.Write.written g.W.Write.failures c.args.out.now c.find_and_write.new.out) run_faults.Output c.args.file.now
          c.in_ok-circuit.ensures.circuit c.find_and_write.result c.find_and_write.ensures;
    }

pub returns-in_err-circuit : goal.returns-in_err-circuit
returns-in_err-circuit g c =
    record {
      ends =
          answered c.from_residual.result (run_faults.Circuit c.in_err-circuit.field-0.0)
          (CommandEnds (flow g.W.Write.written g.W.Write.failures c.args.out.now c.args.out.now) run_faults.Output
          (OfFile c.args.file.now (WritesWitness c.args.asked c.args.stimulus.now)))
          c.from_residual.ensures.1
          (file_refused g.W.Write.written g.W.Write.failures c.args.out.now run_faults.Output
          (WritesWitness c.args.asked c.args.stimulus.now) c.args.file.now c.in_err-circuit.field-0.0 c.in_err-circuit.ensures.fault);
    }
