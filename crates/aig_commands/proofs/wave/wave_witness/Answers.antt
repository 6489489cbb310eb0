use Rattle.aig_bytes.specs.Flow.{flow}
use Rattle.aig_commands.specs.Wave.{DumpsRun}
use Rattle.aig_commands.proofs.wave.wave_witness.Goals as goal
use Rattle.aig_command.proofs.Files.{answered, ends_of_file, file_refused}
use Rattle.aig_command.specs.Command.{OfFile}
use Rattle.aig_command.specs.Command.{CommandEnds}
use Rattle.aig_command.specs.declared.run_fault.RunFault.TheVariants as run_faults

pub returns : goal.returns
returns g c =
    record {
      ends =
          ends_of_file (DumpsRun c.args.witness.now) c.in_ok-circuit.circuit (λ fault bytes h. h)
          (flow g.W.Write.written g.W.Write.failures c.args.out.now c.replay.new.out) run_faults.Output c.args.circuit.now c.in_ok-circuit.ensures.circuit
          c.replay.result c.replay.ensures;
    }

pub returns-in_err-circuit : goal.returns-in_err-circuit
returns-in_err-circuit g c =
    record {
      ends =
          answered c.from_residual.result (run_faults.Circuit c.in_err-circuit.field-0.0)
          (CommandEnds (flow g.W.Write.written g.W.Write.failures c.args.out.now c.args.out.now) run_faults.Output (OfFile c.args.circuit.now (DumpsRun c.args.witness.now)))
          c.from_residual.ensures.1
          (file_refused g.W.Write.written g.W.Write.failures c.args.out.now run_faults.Output (DumpsRun c.args.witness.now) c.args.circuit.now c.in_err-circuit.field-0.0 c.in_err-circuit.ensures.fault);
    }
