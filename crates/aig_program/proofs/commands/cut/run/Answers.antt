use Rattle.std.proofs.Common.{◌∙◌}
use Rattle.std.specs.Prelude.{IfSome}
use Rattle.aig_command.specs.Command.{OfFile}
use Rattle.aig_command.specs.declared.run_fault.RunFault.TheVariants as run_faults
use Rattle.aig_commands.specs.Cut.{WritesCut}
use Rattle.aig_files.specs.declared.part.Part.TheVariants as parts
use Rattle.aig_program.specs.Ends.{Ends, end_of, seen}
use Rattle.aig_program.proofs.Endings.{ends_unread, known_at_first, nothing, of_any_two, of_left, of_whole, slice_whole, streamed_ends}
use Rattle.aig_program.proofs.commands.cut.run.Goals as goal

pub returns : goal.returns
returns g c =
    let w = g.W.Write.written in
    let f = g.W.Write.failures in
    let out = seen w f c.args.out.now c.streamed.new.out in
    let left = g.F.Read.remaining in
    let k = c.new-circuit in
    let to = c.args.it.to in
    let text = c.as_slice-text.result.now in
    let r = c.streamed.result in
    record {
      ends = of_left (left c.args.it.circuit)
          (λ file. IfSome (left c.args.it.cuts) (λ xs. Ends out run_faults.Output end_of (OfFile file (WritesCut xs to)) r))
          (λ file is. of_whole (left c.args.it.cuts) text
          (slice_whole (left c.args.it.cuts) _ _ c.as_slice-text.ensures.value c.in_ok-cuts.ensures.whole)
          (λ xs. Ends out run_faults.Output end_of (OfFile file (WritesCut xs to)) r)
          (streamed_ends w f _ _ _ _ (WritesCut text to) file
          (known_at_first left c.args.it.circuit k.result.first k.result.inner k.ensures.first k.ensures.inner ∙ is)
          c.cut-done.result r c.cut-done.ensures.ends c.streamed.ensures.ends));
    }

pub returns-in_err-cuts : goal.returns-in_err-cuts
returns-in_err-cuts g c =
    let w = g.W.Write.written in
    let f = g.W.Write.failures in
    let out = seen w f c.args.out.now c.args.out.now in
    let left = g.F.Read.remaining in
    let r = c.from_residual in
    record {
      ends =
          of_any_two (left c.args.it.circuit) (left c.args.it.cuts)
          (λ file text. Ends out run_faults.Output end_of (OfFile file (WritesCut text c.args.it.to)) r.result)
          (λ file text. ends_unread (nothing w f c.args.out.now) r.result c.in_err-cuts.field-0.0 parts.Cuts
          c.in_err-cuts.ensures.fails r.ensures.1);
    }
