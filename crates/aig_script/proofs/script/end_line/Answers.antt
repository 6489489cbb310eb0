use Rattle.std.proofs.Common.{◌≡◌, ℕ, List, [], ◌++◌, subst, sym, ◌∙◌}
use Rattle.std.proofs.lemmas.Bool.{true≢false}
use Rattle.aig_bytes.proofs.Results.{on_ok}
use Rattle.aig_script.specs.Replies.{WholeReply}
use Rattle.aig_script.specs.ScriptLine.{KeepsScriptLine}
use Rattle.aig_script.proofs.script.end_line.Goals as goal
use Rattle.aig_bytes.proofs.WriteLemmas.{writes_err}

pub returns-then-not-begins_row-clause-empty : goal.returns-then-not-begins_row-clause-empty
returns-then-not-begins_row-clause-empty g c =
    let (text, k) = c.requires.kept in
    let nothing : text ≡ [] = (c.is_empty.ensures text k).0 c.if-is_empty.true in
    on_ok c.answer_command.result (subst (λ (t : List ℕ). KeepsScriptLine t c.args.line.now) nothing k)

pub returns-then-not-begins_row-clause-reply : goal.returns-then-not-begins_row-clause-reply
returns-then-not-begins_row-clause-reply g c =
    let h = c.answer_command.ensures in (
      h.0,
      λ text k.
          subst (λ (t : List ℕ). WholeReply c.args.bench.now.pair (t ++ c.args.piece.now) h.0 c.answer_command.new.bench.pair)
          (sym ((c.is_empty.ensures text k).0 c.if-is_empty.true))
          (h.1 (λ b. true≢false (sym (c.begins_row.ensures.row.1 b) ∙ c.if-not-begins_row.true))),
      h.2,
    )

pub returns-in_err-answer-clause-reply : goal.returns-in_err-answer-clause-reply
returns-in_err-answer-clause-reply g c =
    let h = c.in_err-answer.ensures in
    (h.0, λ text k. h.1 (text ++ c.args.piece.now) (c.extend.ensures.keeps text k), writes_err h.2 c.from_residual.ensures.0)

pub returns-clause-reply : goal.returns-clause-reply
returns-clause-reply g c =
    let h = c.in_ok-answer.ensures in
    (h.0, λ text k. h.1 (text ++ c.args.piece.now) (c.extend.ensures.keeps text k), h.2)
