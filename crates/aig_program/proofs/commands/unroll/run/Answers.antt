use Rattle.aig_commands.specs.Unroll.{UnrollsKept}
use Rattle.aig_command.specs.Command.{OfFile}
use Rattle.aig_files.specs.declared.part.Part.TheVariants as parts
use Rattle.aig_command.specs.declared.run_fault.RunFault.TheVariants as run_faults
use Rattle.aig_program.specs.Ends.{Ends, end_of, seen}
use Rattle.aig_program.proofs.Endings.{command_ends, ends_unread, nothing, of_any, of_whole, slice_whole}
use Rattle.aig_program.proofs.commands.unroll.run.Goals as goal

pub returns : goal.returns
returns g c =
    let w = g.W.Write.written in
    let f = g.W.Write.failures in
    let out = seen w f c.args.out.now c.ended.new.out in
    let file = c.as_slice-file.result.now in
    record {
      ends =
          of_whole (g.F.Read.remaining c.args.it.circuit) file
          (slice_whole (g.F.Read.remaining c.args.it.circuit) _ _ c.as_slice-file.ensures.value c.in_ok-circuit.ensures.whole)
          (λ xs. Ends out run_faults.Output end_of (OfFile xs (UnrollsKept c.args.it.frames c.args.it.to)) c.ended.result)
          (command_ends w f _ _ _ run_faults.Output (OfFile file (UnrollsKept c.args.it.frames c.args.it.to)) c.unroll-done.result c.ended.result c.unroll-done.ensures.ends c.ended.ensures.ends);
    }

pub returns-in_err-circuit : goal.returns-in_err-circuit
returns-in_err-circuit g c =
    let w = g.W.Write.written in
    let f = g.W.Write.failures in
    let out = seen w f c.args.out.now c.args.out.now in
    record {
      ends =
          of_any (g.F.Read.remaining c.args.it.circuit) (λ xs. Ends out run_faults.Output end_of (OfFile xs (UnrollsKept c.args.it.frames c.args.it.to)) c.from_residual.result)
          (λ xs. (ends_unread (nothing w f c.args.out.now) c.from_residual.result c.in_err-circuit.field-0.0 parts.Circuit c.in_err-circuit.ensures.fails
          c.from_residual.ensures.1));
    }
