use Rattle.std.proofs.lemmas.Bool.{false≢true, true_from_ne_false}
use Rattle.aig_sat.specs.proof.Steps.{text_to_come}
use Rattle.aig_sat.proofs.models.ModelLemmas.{passed_fault}
use Rattle.aig_sat.proofs.reading.TextRefusals.{digit_refused, word_refused, zero_refused}
use Rattle.std.proofs.Common.{◌++◌, ◌∷◌, [], inl, inr, sym, ◌∙◌, rules}
use Rattle.aig_bytes.specs.Term.{minus}
use Rattle.aig_sat.proofs.reading.TakingLemmas.{text_then, word_is, zero_is}
use Rattle.aig_sat.proofs.proof.text.text_word.Goals as goal

pub returns-then-is_end-clause-word : goal.returns-then-is_end-clause-word
returns-then-is_end-clause-word g c =
    let (digits, is, took) = c.in_ok-number.ensures.number in
    let (ends, of, took') = c.in_ok-end_step.ensures.ends in
    let negated = c.in_ok-negated.negated in (
      minus negated ++ (digits ++ ends),
      zero_is c.args.is_first c.end_step.new.bytes.previous c.in_ok-number.number negated digits ends (c.is_end.ensures.0 c.if-is_end.true).0
          (c.is_end.ensures.0 c.if-is_end.true).1 is.within of,
      text_then c.in_ok-negated.ensures.taken.taken (text_then took took'),
    )

pub returns-in-Some-clause-word : goal.returns-in-Some-clause-word
returns-in-Some-clause-word g c =
    let (digits, is, took) = c.in_ok-number.ensures.number in
    let negated = c.in_ok-negated.negated in
    let b = c.end_word.new.bytes.previous in (
      minus negated ++ (digits ++ b ∷ []),
      word_is c.args.is_first b c.in-Some.literal c.in_ok-number.number negated digits c.in-Some.ensures.number is.within
          c.in-Some.ensures.variable c.in_ok-end_word.ensures.space,
      text_then c.in_ok-negated.ensures.taken.taken (text_then took c.in_ok-end_word.ensures.taken),
    )

pub returns-in_err-number-clause-refused : goal.returns-in_err-number-clause-refused
returns-in_err-number-clause-refused g c = record {
  count = search rules;
  lowers = search rules;
  refused = λ at is.
      digit_refused (text_to_come c.args.bytes.now (g.R.Read.left c.args.reader.now)) (text_to_come c.take_minus.new.bytes (g.R.Read.left c.take_minus.new.reader)) c.args.is_first c.in_ok-negated.negated c.in_ok-negated.ensures.taken.taken.come c.in_ok-negated.ensures.none
      (c.text_number.ensures.refused.refused at (passed_fault c.text_number.result c.from_residual-in_err-number.result c.in_err-number.field-0.0 _ c.in_err-number.was c.from_residual-in_err-number.ensures.1 is));
}

pub returns-in_err-end_step-clause-refused : goal.returns-in_err-end_step-clause-refused
returns-in_err-end_step-clause-refused g c = record {
  count = search rules;
  lowers = search rules;
  refused = λ at is.
      let (digits, of, took) = c.in_ok-number.ensures.number in
      zero_refused (text_to_come c.args.bytes.now (g.R.Read.left c.args.reader.now)) (text_to_come c.take_minus.new.bytes (g.R.Read.left c.take_minus.new.reader)) (text_to_come c.text_number.new.bytes (g.R.Read.left c.text_number.new.reader)) c.args.is_first c.in_ok-negated.negated c.in_ok-number.number digits c.in_ok-negated.ensures.taken.taken.come
      took.come (c.is_end.ensures.0 c.if-is_end.true).1 (c.is_end.ensures.0 c.if-is_end.true).0 of
      (c.end_step.ensures.refused.refused at (passed_fault c.end_step.result c.from_residual-in_err-end_step.result c.in_err-end_step.field-0.0 _ c.in_err-end_step.was c.from_residual-in_err-end_step.ensures.1 is));
}

pub returns-in_err-end_word-clause-refused : goal.returns-in_err-end_word-clause-refused
returns-in_err-end_word-clause-refused g c = record {
  count = search rules;
  lowers = search rules;
  refused = λ at is.
      let (digits, of, took) = c.in_ok-number.ensures.number in
      word_refused (text_to_come c.args.bytes.now (g.R.Read.left c.args.reader.now)) (text_to_come c.take_minus.new.bytes (g.R.Read.left c.take_minus.new.reader)) (text_to_come c.text_number.new.bytes (g.R.Read.left c.text_number.new.reader)) c.args.is_first c.in_ok-negated.negated c.in_ok-number.number digits c.in_ok-negated.ensures.taken.taken.come
      took.come c.in_ok-negated.ensures.none of c.in_ok-number.ensures.ends
      (λ none. true_from_ne_false c.in_ok-negated.negated (λ plain. false≢true (sym c.if-is_end.false ∙ c.is_end.ensures.1 (none, plain))))
      (inl (c.end_word.ensures.refused.refused at (passed_fault c.end_word.result c.from_residual-in_err-end_word.result c.in_err-end_word.field-0.0 _ c.in_err-end_word.was c.from_residual-in_err-end_word.ensures.1 is)));
}

pub returns-in-None-clause-refused : goal.returns-in-None-clause-refused
returns-in-None-clause-refused g c = record {
  count = search rules;
  lowers = search rules;
  refused = λ at is.
      let (digits, of, took) = c.in_ok-number.ensures.number in
      word_refused (text_to_come c.args.bytes.now (g.R.Read.left c.args.reader.now)) (text_to_come c.take_minus.new.bytes (g.R.Read.left c.take_minus.new.reader)) (text_to_come c.text_number.new.bytes (g.R.Read.left c.text_number.new.reader)) c.args.is_first c.in_ok-negated.negated c.in_ok-number.number digits c.in_ok-negated.ensures.taken.taken.come
      took.come c.in_ok-negated.ensures.none of c.in_ok-number.ensures.ends
      (λ none. true_from_ne_false c.in_ok-negated.negated (λ plain. false≢true (sym c.if-is_end.false ∙ c.is_end.ensures.1 (none, plain))))
      (inr (c.literal_of.ensures.none c.in-None.is));
}
