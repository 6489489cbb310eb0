use Rattle.aig_sat.specs.proof.Steps.{text_to_come}
use Rattle.aig_sat.proofs.models.ModelLemmas.{passed_fault}
use Rattle.aig_sat.proofs.reading.TextRefusals.{ends_refused, rest_refused}
use Rattle.std.proofs.Common.{◌≢◌, ◌∙◌, ◌++◌, ◌∷◌, [], sym, rules}
use Rattle.std.proofs.lemmas.Bool.{false≢true}
use Rattle.std.proofs.lemmas.Result.{on_ok_weaker}
use Rattle.aig_sat.proofs.reading.TakingLemmas.{ends_line, text_then}
use Rattle.aig_sat.proofs.proof.text.end_step.Goals as goal

pub returns-clause-ends : goal.returns-clause-ends
returns-clause-ends g c =
    let b = c.end_word.new.bytes.previous in
    let other : b ≢ 10 = λ e. false≢true (sym c.if-is_at_line.false ∙ c.is_at_line.ensures.1 e) in
    on_ok_weaker c.end_line.result
    (λ line. (
      b ∷ (line.0 ++ 10 ∷ []),
      ends_line c.args.is_first b line.0 c.if-not-is_first.false c.in_ok-end_word.ensures.space other line.1,
      text_then c.in_ok-end_word.ensures.taken line.2,
    ))
    c.end_line.ensures.line

pub returns-in_err-end_word-clause-refused : goal.returns-in_err-end_word-clause-refused
returns-in_err-end_word-clause-refused g c = record {
  count = search rules;
  never_more = search rules;
  refused = λ at is.
      ends_refused (text_to_come c.args.bytes.now (g.R.Read.left c.args.reader.now)) c.args.is_first (c.end_word.ensures.refused.refused at (passed_fault c.end_word.result c.from_residual.result c.in_err-end_word.field-0.0 _ c.in_err-end_word.was c.from_residual.ensures.1 is));
}

pub returns-clause-refused : goal.returns-clause-refused
returns-clause-refused g c = record {
  count = search rules;
  never_more = search rules;
  refused = λ at is.
      let b = c.end_word.new.bytes.previous in
      rest_refused (text_to_come c.args.bytes.now (g.R.Read.left c.args.reader.now)) (text_to_come c.end_word.new.bytes (g.R.Read.left c.end_word.new.reader)) c.args.is_first b c.in_ok-end_word.ensures.taken.come
      c.if-not-is_first.false (λ e. false≢true (sym c.if-is_at_line.false ∙ c.is_at_line.ensures.1 e)) (c.end_line.ensures.refused.refused at is);
}
