use Rattle.aig_commands.specs.Unroll.{UnrollsKept}
use Rattle.aig_command.specs.Command.{OfFile}
use Rattle.aig_files.specs.declared.part.Part.TheVariants as parts
use Rattle.aig_command.specs.declared.run_fault.RunFault.TheVariants as run_faults
use Rattle.aig_program.specs.Ends.{EndsKeeping, seen}
use Rattle.aig_program.proofs.Endings.{ends_unread, ends_unwritten, nothing, of_any, of_whole, slice_whole}
use Rattle.aig_program.proofs.commands.unroll.run_and_map.Goals as goal

pub returns : goal.returns
returns g c =
    let left = g.F.Read.remaining in
    let out = seen g.W.Write.written g.W.Write.failures c.args.out.now c.write_unrolled_and_map.new.out in
    let file = c.as_slice-file.result.now in
    record {
      ends =
          of_whole (left c.args.it.circuit) file
          (slice_whole (left c.args.it.circuit) _ _ c.as_slice-file.ensures.value c.in_ok-circuit.ensures.whole)
          (λ xs. EndsKeeping out run_faults.Output (OfFile xs (UnrollsKept c.args.it.frames c.args.it.to)) c.write_unrolled_and_map.result)
          c.write_unrolled_and_map.ensures.ends;
    }

pub returns-in_err-circuit : goal.returns-in_err-circuit
returns-in_err-circuit g c =
    let w = g.W.Write.written in
    let f = g.W.Write.failures in
    let out = seen w f c.args.out.now c.args.out.now in
    let r = c.from_residual in
    record {
      ends =
          of_any (g.F.Read.remaining c.args.it.circuit) (λ xs. EndsKeeping out run_faults.Output (OfFile xs (UnrollsKept c.args.it.frames c.args.it.to)) r.result)
          (λ xs. EndsKeeping.ends (ends_unread (nothing w f c.args.out.now) r.result c.in_err-circuit.field-0.0 parts.Circuit c.in_err-circuit.ensures.fails r.ensures.1));
    }

pub returns-in_err-map : goal.returns-in_err-map
returns-in_err-map g c =
    let w = g.W.Write.written in
    let f = g.W.Write.failures in
    let out = seen w f c.args.out.now c.args.out.now in
    let r = c.from_residual-in_err-map in
    record {
      ends =
          of_any (g.F.Read.remaining c.args.it.circuit) (λ xs. EndsKeeping out run_faults.Output (OfFile xs (UnrollsKept c.args.it.frames c.args.it.to)) r.result)
          (λ xs. ends_unwritten (nothing w f c.args.out.now) r.result c.in_err-map.field-0.0 c.in_err-map.ensures.fails r.ensures.1);
    }
