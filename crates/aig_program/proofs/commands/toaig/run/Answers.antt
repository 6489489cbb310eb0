use Rattle.std.proofs.Common.{◌∙◌}
use Rattle.aig_commands.specs.Toaig.{Converts}
use Rattle.aig_command.specs.Command.{OfFile}
use Rattle.aig_command.specs.declared.run_fault.RunFault.TheVariants as run_faults
use Rattle.aig_program.specs.Ends.{Ends, end_of, seen}
use Rattle.aig_program.proofs.Endings.{known_at_first, of_left, streamed_ends}
use Rattle.aig_program.proofs.commands.toaig.run.Goals as goal

pub returns : goal.returns
returns g c =
    let w = g.W.Write.written in
    let f = g.W.Write.failures in
    let out = seen w f c.args.out.now c.streamed.new.out in
    let left = g.F.Read.remaining in
    let k = c.new-circuit in
    record {
      ends = of_left (left c.args.it.circuit) (λ file. Ends out run_faults.Output end_of (OfFile file (Converts c.args.it.to)) c.streamed.result) (λ file is.
          streamed_ends w f _ _ _ _ (Converts c.args.it.to) file
          (known_at_first left c.args.it.circuit k.result.first k.result.inner k.ensures.first k.ensures.inner ∙ is)
          c.convert_from-done.result c.streamed.result c.convert_from-done.ensures.ends c.streamed.ensures.ends);
    }
