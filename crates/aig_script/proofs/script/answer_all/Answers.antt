use Rattle.std.proofs.Common.{[], sym, ◌∙◌}
use Rattle.std.proofs.lemmas.Bool.{false≢true}
use Rattle.aig_bytes.proofs.Results.{on_err}
use Rattle.aig_script.specs.Lines.{rest_from}
use Rattle.aig_script.proofs.RunLemmas.{ran_at_end, ran_flushed, ran_unflushed, ran_with_piece, failing_at_piece}
use Rattle.aig_script.proofs.script.answer_all.Goals as goal

pub returns-then-is_empty-clause-ok : goal.returns-then-is_empty-clause-ok
returns-then-is_empty-clause-ok g c =
    let r = c.in_ok-answer_lines.ensures.ok in
    ran_at_end r c.in_ok-answer_lines.ensures.end
    ((c.is_empty.ensures (rest_from [] r.script) r.rest).0 c.if-is_empty.true)

pub returns-in_err-write_all-clause-err : goal.returns-in_err-write_all-clause-err
returns-in_err-write_all-clause-err g c =
    let r = c.in_ok-answer_lines.ensures.ok in
    on_err c.from_residual-in_err-write_all.result
    (failing_at_piece r c.in_ok-answer_lines.ensures.end
    (λ e. false≢true (sym c.if-is_empty.false ∙ (c.is_empty.ensures (rest_from [] r.script) r.rest).1 e)) c.in_err-write_all.ensures)

pub returns-in_err-flush-clause-err : goal.returns-in_err-flush-clause-err
returns-in_err-flush-clause-err g c =
    let r = c.in_ok-answer_lines.ensures.ok in
    on_err c.from_residual-in_err-flush.result
    (ran_unflushed
    (ran_with_piece r c.in_ok-answer_lines.ensures.end
    (λ e. false≢true (sym c.if-is_empty.false ∙ (c.is_empty.ensures (rest_from [] r.script) r.rest).1 e)) c.in_ok-write_all.ensures)
    c.in_err-flush.ensures.kept c.in_err-flush.ensures.count)

pub returns-clause-ok : goal.returns-clause-ok
returns-clause-ok g c =
    let r = c.in_ok-answer_lines.ensures.ok in
    ran_flushed
    (ran_with_piece r c.in_ok-answer_lines.ensures.end
    (λ e. false≢true (sym c.if-is_empty.false ∙ (c.is_empty.ensures (rest_from [] r.script) r.rest).1 e)) c.in_ok-write_all.ensures)
    c.in_ok-flush.ensures.kept c.in_ok-flush.ensures.count
