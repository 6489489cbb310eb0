use Rattle.std.specs.Prelude.{IfSome}
use Rattle.aig_commands.specs.Reduce.{Reduces}
use Rattle.aig_command.specs.Command.{OfFile}
use Rattle.aig_files.specs.declared.part.Part.TheVariants as parts
use Rattle.aig_command.specs.declared.run_fault.RunFault.TheVariants as run_faults
use Rattle.aig_program.specs.Ends.{Ends, end_of_verdict, seen}
use Rattle.aig_program.proofs.Endings.{command_ends, ends_unread, nothing, of_any, of_whole, slice_whole}
use Rattle.aig_program.proofs.commands.reduce.run.Goals as goal

pub returns : goal.returns
returns g c =
    let w = g.W.Write.written in
    let f = g.W.Write.failures in
    let out = seen w f c.args.out.now c.confirmed.new.out in
    let file = c.as_slice-file.result.now in
    let text = c.as_slice-text.result.now in
    record {
      ends =
          of_whole (g.F.Read.remaining c.args.it.circuit) file
          (slice_whole (g.F.Read.remaining c.args.it.circuit) _ _ c.as_slice-file.ensures.value c.in_ok-circuit.ensures.whole)
          (λ xs. IfSome (g.F.Read.remaining c.args.it.witness) (λ ys. Ends out run_faults.Output end_of_verdict (OfFile xs (Reduces ys)) c.confirmed.result))
          (of_whole (g.F.Read.remaining c.args.it.witness) text
          (slice_whole (g.F.Read.remaining c.args.it.witness) _ _ c.as_slice-text.ensures.value c.in_ok-witness.ensures.whole)
          (λ ys. Ends out run_faults.Output end_of_verdict (OfFile file (Reduces ys)) c.confirmed.result)
          (command_ends w f _ _ _ run_faults.Output (OfFile file (Reduces text)) c.reduce-done.result c.confirmed.result c.reduce-done.ensures.ends c.confirmed.ensures.ends));
    }

pub returns-in_err-circuit : goal.returns-in_err-circuit
returns-in_err-circuit g c =
    let w = g.W.Write.written in
    let f = g.W.Write.failures in
    let out = seen w f c.args.out.now c.args.out.now in
    let r = c.from_residual in
    record {
      ends =
          of_any (g.F.Read.remaining c.args.it.circuit)
          (λ xs. IfSome (g.F.Read.remaining c.args.it.witness) (λ ys. Ends out run_faults.Output end_of_verdict (OfFile xs (Reduces ys)) r.result))
          (λ xs. of_any (g.F.Read.remaining c.args.it.witness) (λ ys. Ends out run_faults.Output end_of_verdict (OfFile xs (Reduces ys)) r.result)
          (λ ys. (ends_unread (nothing w f c.args.out.now) r.result c.in_err-circuit.field-0.0 parts.Circuit c.in_err-circuit.ensures.fails r.ensures.1)));
    }

pub returns-in_err-witness : goal.returns-in_err-witness
returns-in_err-witness g c =
    let w = g.W.Write.written in
    let f = g.W.Write.failures in
    let out = seen w f c.args.out.now c.args.out.now in
    let r = c.from_residual-in_err-witness in
    record {
      ends =
          of_any (g.F.Read.remaining c.args.it.circuit)
          (λ xs. IfSome (g.F.Read.remaining c.args.it.witness) (λ ys. Ends out run_faults.Output end_of_verdict (OfFile xs (Reduces ys)) r.result))
          (λ xs. of_any (g.F.Read.remaining c.args.it.witness) (λ ys. Ends out run_faults.Output end_of_verdict (OfFile xs (Reduces ys)) r.result)
          (λ ys. (ends_unread (nothing w f c.args.out.now) r.result c.in_err-witness.field-0.0 parts.Witness c.in_err-witness.ensures.fails r.ensures.1)));
    }
