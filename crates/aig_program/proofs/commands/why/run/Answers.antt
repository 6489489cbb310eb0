use Rattle.std.proofs.Common.{ℕ, List, Option, subst}
use Rattle.std.specs.Prelude.{option_copied}
use Rattle.aig_why.specs.Why.{WritesWhy}
use Rattle.aig_bytes.specs.Flow.{flow}
use Rattle.aig_command.specs.Command.{CommandEnds, OfFile}
use Rattle.aig_command.specs.Given.{given_text}
use Rattle.aig_files.specs.declared.part.Part.TheVariants as parts
use Rattle.aig_command.specs.declared.run_fault.RunFault.TheVariants as run_faults
use Rattle.aig_program.specs.Ends.{Ends, end_of, seen}
use Rattle.aig_program.specs.GivenFiles.{given_left, given_part}
use Rattle.aig_program.proofs.Endings.{command_ends, ends_unread, nothing, of_any_two, of_both, slice_whole}
use Rattle.aig_program.proofs.commands.why.run.Goals as goal

pub returns : goal.returns
returns g c =
    let w = g.W.Write.written in
    let f = g.W.Write.failures in
    let out = seen w f c.args.out.now c.ended.new.out in
    let file = c.as_slice-file.result.now in
    let run = given_text c.text_of_given-run.result in
    record {
      ends =
          of_both (g.F.Read.remaining c.args.it.circuit) (given_left g.F.Read.remaining c.args.it.given) file run
          (slice_whole (g.F.Read.remaining c.args.it.circuit) _ _ c.as_slice-file.ensures.value c.in_ok-circuit.ensures.whole)
          (slice_whole (given_left g.F.Read.remaining c.args.it.given) _ _ c.text_of_given-run.ensures.text c.in_ok-given.ensures.whole)
          (λ file run. Ends out run_faults.Output end_of (OfFile file (WritesWhy c.args.it.form run (option_copied c.args.it.name) c.args.it.span)) c.ended.result)
          (command_ends w f _ _ _ run_faults.Output (OfFile file (WritesWhy c.args.it.form run (option_copied c.args.it.name) c.args.it.span))
          c.why-done.result c.ended.result
          (subst
          (λ (name : Option (List ℕ)). CommandEnds (flow w f c.args.out.now c.why-done.new.out) run_faults.Output (OfFile file (WritesWhy c.args.it.form run name c.args.it.span)) c.why-done.result)
          c.bytes_of.ensures c.why-done.ensures.ends)
          c.ended.ensures.ends);
    }

pub returns-in_err-circuit : goal.returns-in_err-circuit
returns-in_err-circuit g c =
    let w = g.W.Write.written in
    let f = g.W.Write.failures in
    let out = seen w f c.args.out.now c.args.out.now in
    let r = c.from_residual in
    record {
      ends =
          of_any_two (g.F.Read.remaining c.args.it.circuit) (given_left g.F.Read.remaining c.args.it.given)
          (λ file run. Ends out run_faults.Output end_of (OfFile file (WritesWhy c.args.it.form run (option_copied c.args.it.name) c.args.it.span)) r.result)
          (λ file run. ends_unread (nothing w f c.args.out.now) r.result c.in_err-circuit.field-0.0 parts.Circuit c.in_err-circuit.ensures.fails r.ensures.1);
    }

pub returns-in_err-given : goal.returns-in_err-given
returns-in_err-given g c =
    let w = g.W.Write.written in
    let f = g.W.Write.failures in
    let out = seen w f c.args.out.now c.args.out.now in
    let r = c.from_residual-in_err-given in
    record {
      ends =
          of_any_two (g.F.Read.remaining c.args.it.circuit) (given_left g.F.Read.remaining c.args.it.given)
          (λ file run. Ends out run_faults.Output end_of (OfFile file (WritesWhy c.args.it.form run (option_copied c.args.it.name) c.args.it.span)) r.result)
          (λ file run. ends_unread (nothing w f c.args.out.now) r.result c.in_err-given.field-0.0 (given_part c.args.it.given) c.in_err-given.ensures.fails r.ensures.1);
    }
