use Rattle.std.proofs.Common.{◌∙◌, ℕ, List, subst}
use Rattle.aig_command.specs.Command.{OfFile}
use Rattle.aig_command.specs.declared.run_fault.RunFault.TheVariants as run_faults
use Rattle.aig_commands.specs.Select.{Selects}
use Rattle.aig_program.specs.Ends.{Ends, end_of, seen}
use Rattle.aig_program.proofs.Endings.{known_at_first, of_left, streamed_ends}
use Rattle.aig_program.proofs.commands.select.run.Goals as goal

pub returns : goal.returns
returns g c =
    let w = g.W.Write.written in
    let f = g.W.Write.failures in
    let out = seen w f c.args.out.now c.streamed.new.out in
    let left = g.F.Read.remaining in
    let k = c.new-circuit in
    let selection = c.args.it.selection in
    let from = selection.from in
    let into = selection.into in
    let named = c.as_slice.result.now in
    let EndsFor = λ (file positions : List ℕ). Ends out run_faults.Output end_of (OfFile file (Selects from into positions c.args.it.to)) c.streamed.result in
    record {
      ends = of_left (left c.args.it.circuit) (λ file. EndsFor file selection.positions.items) (λ file is.
          subst (EndsFor file) c.as_slice.ensures.value
          (streamed_ends w f _ _ _ _ (Selects from into named c.args.it.to) file
          (known_at_first left c.args.it.circuit k.result.first k.result.inner k.ensures.first k.ensures.inner ∙ is)
          c.select-done.result c.streamed.result c.select-done.ensures.ends c.streamed.ensures.ends));
    }
