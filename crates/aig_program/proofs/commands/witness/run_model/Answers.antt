use Rattle.std.proofs.Common.{subst}
use Rattle.std.specs.Prelude.{IfSome}
use Rattle.aig_commands.specs.Questions.{Asked, NamesQuestion}
use Rattle.aig_files.specs.declared.part.Part.TheVariants as parts
use Rattle.aig_commands.proofs.Questions.{asked_with}
use Rattle.aig_command.specs.declared.run_fault.RunFault.TheVariants as run_faults
use Rattle.aig_program.specs.Ends.{Ends, end_of, seen}
use Rattle.aig_program.specs.Questions.{asked_by, claims_left}
use Rattle.aig_program.proofs.Endings.{command_ends, ends_unread, nothing, of_any, of_any_two, of_both, of_whole, slice_whole}
use Rattle.aig_program.proofs.commands.witness.run_model.Goals as goal

pub returns : goal.returns
returns g c =
    let w = g.W.Write.written in
    let f = g.W.Write.failures in
    let out = seen w f c.args.out.now c.ended.new.out in
    let file = c.as_slice-file.result.now in
    let text = c.as_slice-text.result.now in
    let claims = c.as_slice-bytes.result.now in
    record {
      ends =
          of_both (g.F.Read.remaining c.args.it.circuit) (claims_left g.F.Read.remaining c.args.it.question) file claims
          (slice_whole (g.F.Read.remaining c.args.it.circuit) _ _ c.as_slice-file.ensures.value c.in_ok-circuit.ensures.whole)
          (slice_whole (claims_left g.F.Read.remaining c.args.it.question) _ _ c.as_slice-bytes.ensures.value c.in_ok-claims.ensures.whole)
          (λ xs ys. IfSome (g.F.Read.remaining c.args.it.model)
          (λ zs. Ends out run_faults.Output end_of (NamesQuestion (asked_by c.args.it.question (λ certificate. ys)) zs xs) c.ended.result))
          (of_whole (g.F.Read.remaining c.args.it.model) text
          (slice_whole (g.F.Read.remaining c.args.it.model) _ _ c.as_slice-text.ensures.value c.in_ok-model.ensures.whole)
          (λ zs. Ends out run_faults.Output end_of (NamesQuestion (asked_by c.args.it.question (λ certificate. claims)) zs file) c.ended.result)
          (subst (λ (a : Asked). Ends out run_faults.Output end_of (NamesQuestion a text file) c.ended.result) (asked_with c.args.it.question c.with-shape.result c.with-asked.result c.as_slice-bytes.result c.with-shape.ensures c.with-asked.ensures)
          (command_ends w f _ _ _ run_faults.Output _ c.model_witness-done.result c.ended.result c.model_witness-done.ensures.ends c.ended.ensures.ends)));
    }

pub returns-in_err-circuit : goal.returns-in_err-circuit
returns-in_err-circuit g c =
    let w = g.W.Write.written in
    let f = g.W.Write.failures in
    let out = seen w f c.args.out.now c.args.out.now in
    let r = c.from_residual.result in
    record {
      ends =
          of_any_two (g.F.Read.remaining c.args.it.circuit) (claims_left g.F.Read.remaining c.args.it.question)
          (λ xs ys. IfSome (g.F.Read.remaining c.args.it.model)
          (λ zs. Ends out run_faults.Output end_of (NamesQuestion (asked_by c.args.it.question (λ certificate. ys)) zs xs) r))
          (λ xs ys. of_any (g.F.Read.remaining c.args.it.model)
          (λ zs. Ends out run_faults.Output end_of (NamesQuestion (asked_by c.args.it.question (λ certificate. ys)) zs xs) r)
          (λ zs. ends_unread (nothing w f c.args.out.now) r c.in_err-circuit.field-0.0 parts.Circuit c.in_err-circuit.ensures.fails c.from_residual.ensures.1));
    }

pub returns-in_err-claims : goal.returns-in_err-claims
returns-in_err-claims g c =
    let w = g.W.Write.written in
    let f = g.W.Write.failures in
    let out = seen w f c.args.out.now c.args.out.now in
    let r = c.from_residual-in_err-claims.result in
    record {
      ends =
          of_any_two (g.F.Read.remaining c.args.it.circuit) (claims_left g.F.Read.remaining c.args.it.question)
          (λ xs ys. IfSome (g.F.Read.remaining c.args.it.model)
          (λ zs. Ends out run_faults.Output end_of (NamesQuestion (asked_by c.args.it.question (λ certificate. ys)) zs xs) r))
          (λ xs ys. of_any (g.F.Read.remaining c.args.it.model)
          (λ zs. Ends out run_faults.Output end_of (NamesQuestion (asked_by c.args.it.question (λ certificate. ys)) zs xs) r)
          (λ zs. ends_unread (nothing w f c.args.out.now) r c.in_err-claims.field-0.0 parts.Certificate c.in_err-claims.ensures.fails c.from_residual-in_err-claims.ensures.1));
    }

pub returns-in_err-model : goal.returns-in_err-model
returns-in_err-model g c =
    let w = g.W.Write.written in
    let f = g.W.Write.failures in
    let out = seen w f c.args.out.now c.args.out.now in
    let r = c.from_residual-in_err-model.result in
    record {
      ends =
          of_any_two (g.F.Read.remaining c.args.it.circuit) (claims_left g.F.Read.remaining c.args.it.question)
          (λ xs ys. IfSome (g.F.Read.remaining c.args.it.model)
          (λ zs. Ends out run_faults.Output end_of (NamesQuestion (asked_by c.args.it.question (λ certificate. ys)) zs xs) r))
          (λ xs ys. of_any (g.F.Read.remaining c.args.it.model)
          (λ zs. Ends out run_faults.Output end_of (NamesQuestion (asked_by c.args.it.question (λ certificate. ys)) zs xs) r)
          (λ zs. ends_unread (nothing w f c.args.out.now) r c.in_err-model.field-0.0 parts.Model c.in_err-model.ensures.fails c.from_residual-in_err-model.ensures.1));
    }
