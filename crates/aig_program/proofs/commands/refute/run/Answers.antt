use Rattle.std.proofs.Common.{List, ℕ, OnOk, subst}
use Rattle.aig_commands.specs.Questions.{Asked, RefutesQuestion, Says}
use Rattle.aig_files.specs.declared.part.Part.TheVariants as parts
use Rattle.aig_commands.proofs.Questions.{asked_with}
use Rattle.aig_command.specs.declared.run_fault.RunFault.TheVariants as run_faults
use Rattle.aig_program.specs.Ends.{Ends, end_of, seen}
use Rattle.aig_program.specs.Questions.{asked_by, claims_left}
use Rattle.aig_program.proofs.Asked.{some_claims}
use Rattle.aig_program.proofs.Endings.{command_ends, ends_unread, no_end, nothing, of_any_two, of_both, ok_flushed, ok_whole, slice_whole}
use Rattle.aig_program.proofs.commands.refute.run.Goals as goal

pub returns-clause-says : goal.returns-clause-says
returns-clause-says g c =
    let file = c.as_slice-file.result.now in
    let claims = c.as_slice-bytes.result.now in
    ok_whole c.ended.result (g.F.Read.remaining c.args.it.circuit) file
    (slice_whole (g.F.Read.remaining c.args.it.circuit) _ _ c.as_slice-file.ensures.value c.in_ok-circuit.ensures.whole)
    (λ file. (claims : List ℕ) × Says (asked_by c.args.it.question (λ certificate. claims)) file)
    (ok_flushed _ _ _ c.refute-done.result c.ended.result c.ended.ensures.ends
    (some_claims c.refute-done.result (λ claims. Says (asked_by c.args.it.question (λ certificate. claims)) file) claims
    (subst (λ (a : Asked). OnOk c.refute-done.result (Says a file)) (asked_with c.args.it.question c.with-shape.result c.with-asked.result c.as_slice-bytes.result c.with-shape.ensures c.with-asked.ensures) c.refute-done.ensures.says)))

pub returns-in_err-circuit-clause-says : goal.returns-in_err-circuit-clause-says
returns-in_err-circuit-clause-says g c =
    no_end _ c.from_residual.result c.in_err-circuit.field-0.0 c.from_residual.ensures.1

pub returns-in_err-claims-clause-says : goal.returns-in_err-claims-clause-says
returns-in_err-claims-clause-says g c =
    no_end _ c.from_residual-in_err-claims.result c.in_err-claims.field-0.0 c.from_residual-in_err-claims.ensures.1

pub returns-clause-ends : goal.returns-clause-ends
returns-clause-ends g c =
    let w = g.W.Write.written in
    let f = g.W.Write.failures in
    let out = seen w f c.args.out.now c.ended.new.out in
    let file = c.as_slice-file.result.now in
    let claims = c.as_slice-bytes.result.now in
    of_both (g.F.Read.remaining c.args.it.circuit) (claims_left g.F.Read.remaining c.args.it.question) file claims
    (slice_whole (g.F.Read.remaining c.args.it.circuit) _ _ c.as_slice-file.ensures.value c.in_ok-circuit.ensures.whole)
    (slice_whole (claims_left g.F.Read.remaining c.args.it.question) _ _ c.as_slice-bytes.ensures.value c.in_ok-claims.ensures.whole)
    (λ xs ys. Ends out run_faults.Output end_of (RefutesQuestion (asked_by c.args.it.question (λ certificate. ys)) xs) c.ended.result)
    (subst (λ (a : Asked). Ends out run_faults.Output end_of (RefutesQuestion a file) c.ended.result) (asked_with c.args.it.question c.with-shape.result c.with-asked.result c.as_slice-bytes.result c.with-shape.ensures c.with-asked.ensures)
    (command_ends w f _ _ _ run_faults.Output _ c.refute-done.result c.ended.result c.refute-done.ensures.ends c.ended.ensures.ends))

pub returns-in_err-circuit-clause-ends : goal.returns-in_err-circuit-clause-ends
returns-in_err-circuit-clause-ends g c =
    let w = g.W.Write.written in
    let f = g.W.Write.failures in
    let out = seen w f c.args.out.now c.args.out.now in
    let r = c.from_residual.result in
    of_any_two (g.F.Read.remaining c.args.it.circuit) (claims_left g.F.Read.remaining c.args.it.question)
    (λ xs ys. Ends out run_faults.Output end_of (RefutesQuestion (asked_by c.args.it.question (λ certificate. ys)) xs) r)
    (λ xs ys. ends_unread (nothing w f c.args.out.now) r c.in_err-circuit.field-0.0 parts.Circuit c.in_err-circuit.ensures.fails c.from_residual.ensures.1)

pub returns-in_err-claims-clause-ends : goal.returns-in_err-claims-clause-ends
returns-in_err-claims-clause-ends g c =
    let w = g.W.Write.written in
    let f = g.W.Write.failures in
    let out = seen w f c.args.out.now c.args.out.now in
    let r = c.from_residual-in_err-claims.result in
    of_any_two (g.F.Read.remaining c.args.it.circuit) (claims_left g.F.Read.remaining c.args.it.question)
    (λ xs ys. Ends out run_faults.Output end_of (RefutesQuestion (asked_by c.args.it.question (λ certificate. ys)) xs) r)
    (λ xs ys. ends_unread (nothing w f c.args.out.now) r c.in_err-claims.field-0.0 parts.Certificate c.in_err-claims.ensures.fails
    c.from_residual-in_err-claims.ensures.1)
