use Rattle.std.proofs.Common.{Err, refl}
use Rattle.aig_commands.specs.Unroll.{UnrollsKept}
use Rattle.aig_command.specs.Command.{OfFile}
use Rattle.aig_command.specs.declared.run_fault.RunFault.TheVariants as run_faults
use Rattle.aig_program.specs.Ends.{EndsKeeping, as_meant}
use Rattle.aig_program.proofs.Endings.{ends_written, flushed_ends}
use Rattle.aig_program.proofs.commands.unroll.write_unrolled_and_map.Goals as goal

pub returns-in-Ok : goal.returns-in-Ok
returns-in-Ok g c =
    let Means = OfFile c.args.it.circuit.now (UnrollsKept c.args.it.frames c.args.it.to) in
    record {
      ends =
          ends_written g.W.Write.written g.W.Write.failures _ _ _ run_faults.Output Means c.unroll-done.result c.in-Ok.circuit
          c.written.result c.unroll-done.ensures.ends c.in-Ok.ensures.answer c.written.ensures.fails;
    }

pub returns-in-Err : goal.returns-in-Err
returns-in-Err g c =
    let Means = OfFile c.args.it.circuit.now (UnrollsKept c.args.it.frames c.args.it.to) in
    record {
      ends =
          EndsKeeping.ends (as_meant (Err c.in-Err.fault)
          (flushed_ends g.W.Write.written g.W.Write.failures _ _ _ run_faults.Output Means c.unroll-done.result (Err c.in-Err.fault)
          c.unroll-done.ensures.ends c.in-Err.ensures.answer) refl);
    }
