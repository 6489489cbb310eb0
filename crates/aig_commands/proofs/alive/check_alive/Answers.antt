use Rattle.aig_bytes.specs.Flow.{flow}
use Rattle.aig_command.proofs.Files.{answered, ends_of_file, file_refused}
use Rattle.aig_command.specs.Command.{CommandEnds, OfFile}
use Rattle.aig_command.specs.declared.run_fault.RunFault.TheVariants as run_faults
use Rattle.aig_commands.specs.CheckAlive.{ChecksRun}
use Rattle.aig_commands.proofs.Printed.{none_printed}
use Rattle.aig_commands.proofs.alive.check_alive.Goals as goal

pub returns : goal.returns
returns g c =
    record {
      ends =
          ends_of_file (ChecksRun c.args.frames c.args.witness.now) c.in_ok-read.read (λ fault bytes h. h)
          (flow g.W.Write.written g.W.Write.failures c.args.out.now c.find_and_write.new.out) run_faults.Output c.args.circuit.now
          c.in_ok-read.ensures.circuit c.find_and_write.result c.find_and_write.ensures.ends;
      printed = λ printed. (c.in_ok-read.read, c.in_ok-read.ensures.circuit, c.find_and_write.ensures.printed printed);
    }

pub returns-in_err-read : goal.returns-in_err-read
returns-in_err-read g c =
    record {
      ends =
          answered c.from_residual.result (run_faults.Circuit c.in_err-read.field-0.0)
          (CommandEnds (flow g.W.Write.written g.W.Write.failures c.args.out.now c.args.out.now) run_faults.Output
          (OfFile c.args.circuit.now (ChecksRun c.args.frames c.args.witness.now)))
          c.from_residual.ensures.1
          (file_refused g.W.Write.written g.W.Write.failures c.args.out.now run_faults.Output
          (ChecksRun c.args.frames c.args.witness.now) c.args.circuit.now c.in_err-read.field-0.0 c.in_err-read.ensures.fault);
      printed = λ printed. absurd (none_printed (g.W.Write.written c.args.out.now) _ _ printed);
    }
