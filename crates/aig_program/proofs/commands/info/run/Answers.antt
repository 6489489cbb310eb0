use Rattle.std.proofs.Common.{◌∙◌, ℕ, List, Option, Some, subst}
use Rattle.aig_commands.specs.Info.{ListsFacts}
use Rattle.aig_files.specs.Known.{still_known}
use Rattle.aig_command.specs.Command.{OfFile}
use Rattle.aig_command.specs.declared.run_fault.RunFault.TheVariants as run_faults
use Rattle.aig_program.specs.Ends.{Ends, end_of, seen}
use Rattle.aig_program.proofs.Endings.{known_at_first, of_left, streamed_ends}
use Rattle.aig_program.proofs.commands.info.run.Goals as goal

pub returns : goal.returns
returns g c =
    let w = g.W.Write.written in
    let f = g.W.Write.failures in
    let out = seen w f c.args.out.now c.streamed.new.out in
    let left = g.F.Read.remaining in
    let k = c.new-circuit in
    let first = still_known (left k.result.first) (left k.result.inner) in
    let EndsFor = λ (file : List ℕ) (o : Option (List ℕ)). Ends out run_faults.Output end_of (OfFile file (ListsFacts o)) c.streamed.result in
    record {
      ends = of_left (left c.args.it.circuit) (λ file. EndsFor file (Some file)) (λ file is.
          let known =
          known_at_first left c.args.it.circuit k.result.first k.result.inner k.ensures.first k.ensures.inner ∙ is in
          subst (EndsFor file) known
          (streamed_ends w f _ _ _ _ (ListsFacts first) file known c.info-done.result c.streamed.result c.info-done.ensures.ends
          c.streamed.ensures.ends));
    }
