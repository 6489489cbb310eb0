use Rattle.std.proofs.Common.{Ok, Err}
use Rattle.aig_bytes.specs.Flow.{flow}
use Rattle.aig_commands.specs.Unroll.{UnrollsKept}
use Rattle.aig_commands.proofs.Unrollings.{kept_ends}
use Rattle.aig_commands.proofs.unroll.unroll.Goals as goal
use Rattle.aig_command.proofs.Files.{answered, ends_of_file, file_refused}
use Rattle.aig_command.specs.Command.{OfFile}
use Rattle.aig_command.specs.Command.{CommandEnds}
use Rattle.aig_command.specs.declared.run_fault.RunFault.TheVariants as run_faults

pub returns-in-Ok : goal.returns-in-Ok
returns-in-Ok g c =
    record {
      ends =
          ends_of_file (UnrollsKept c.args.frames c.args.to) c.in_ok-circuit.circuit (λ fault bytes h. h)
          (flow g.W.Write.written g.W.Write.failures c.args.out.now c.unroll_circuit.new.out) run_faults.Output c.args.circuit.now c.in_ok-circuit.ensures.circuit
          (Ok c.in_ok-circuit.circuit)
          (kept_ends (flow g.W.Write.written g.W.Write.failures c.args.out.now c.unroll_circuit.new.out) c.args.frames c.args.to c.in_ok-circuit.circuit (Ok tt) c.in-Ok.ensures.ends);
    }

pub returns-in-Err : goal.returns-in-Err
returns-in-Err g c =
    record {
      ends =
          ends_of_file (UnrollsKept c.args.frames c.args.to) c.in_ok-circuit.circuit (λ fault bytes h. h)
          (flow g.W.Write.written g.W.Write.failures c.args.out.now c.unroll_circuit.new.out) run_faults.Output c.args.circuit.now c.in_ok-circuit.ensures.circuit
          (Err c.in-Err.fault)
          (kept_ends (flow g.W.Write.written g.W.Write.failures c.args.out.now c.unroll_circuit.new.out) c.args.frames c.args.to c.in_ok-circuit.circuit (Err c.in-Err.fault) c.in-Err.ensures.ends);
    }

pub returns-in_err-circuit : goal.returns-in_err-circuit
returns-in_err-circuit g c =
    record {
      ends =
          answered c.from_residual.result (run_faults.Circuit c.in_err-circuit.field-0.0)
          (CommandEnds (flow g.W.Write.written g.W.Write.failures c.args.out.now c.args.out.now) run_faults.Output (OfFile c.args.circuit.now (UnrollsKept c.args.frames c.args.to)))
          c.from_residual.ensures.1
          (file_refused g.W.Write.written g.W.Write.failures c.args.out.now run_faults.Output (UnrollsKept c.args.frames c.args.to) c.args.circuit.now c.in_err-circuit.field-0.0 c.in_err-circuit.ensures.fault);
    }
