use Rattle.std.proofs.Common.{◌≤◌, ◌++◌, ◌∷◌, [], inl, inr, ℕ, List, ap, arith, rules}
use Rattle.aig_sat.specs.proof.Steps.{text_to_come}
use Rattle.aig_sat.proofs.models.ModelLemmas.{passed_fault}
use Rattle.aig_sat.proofs.reading.HintedRefusals.{number_digit_refused, number_word_refused}
use Rattle.aig_sat.proofs.reading.TakingLemmas.{text_as, text_then}
use Rattle.aig_sat.proofs.proof.hinted.word_number.Goals as goal

pub returns-clause-number : goal.returns-clause-number
returns-clause-number g c =
    let (digits, is, took) = c.in_ok-number.ensures.number in
    let b = c.end_word.new.bytes.previous in
    let small : c.in_ok-number.number ≤ 2147483647 = omega (arith, c.if-number-gt-MOST.false) in
    text_as (ap (λ (t : List ℕ). t ++ b ∷ []) (is.within small)) (text_then took c.in_ok-end_word.ensures.taken)

pub returns-in_err-number-clause-refused : goal.returns-in_err-number-clause-refused
returns-in_err-number-clause-refused g c = record {
  count = search rules;
  refused = λ at is.
      number_digit_refused (text_to_come c.args.bytes.now (g.R.Read.left c.args.reader.now))
      (c.text_number.ensures.refused.refused at (passed_fault c.text_number.result c.from_residual.result c.in_err-number.field-0.0 _
      c.in_err-number.was c.from_residual.ensures.1 is));
}

pub returns-in_err-end_word-clause-refused : goal.returns-in_err-end_word-clause-refused
returns-in_err-end_word-clause-refused g c = record {
  count = search rules;
  refused = λ at is.
      let (digits, of, took) = c.in_ok-number.ensures.number in
      number_word_refused (text_to_come c.args.bytes.now (g.R.Read.left c.args.reader.now))
      (text_to_come c.text_number.new.bytes (g.R.Read.left c.text_number.new.reader)) c.in_ok-number.number digits took.come of
      c.in_ok-number.ensures.ends
      (inl (c.end_word.ensures.refused.refused at (passed_fault c.end_word.result c.from_residual-in_err-end_word.result
      c.in_err-end_word.field-0.0 _ c.in_err-end_word.was c.from_residual-in_err-end_word.ensures.1 is)));
}

pub returns-then-number-gt-MOST-clause-refused : goal.returns-then-number-gt-MOST-clause-refused
returns-then-number-gt-MOST-clause-refused g c = record {
  count = search rules;
  refused = λ at is.
      let (digits, of, took) = c.in_ok-number.ensures.number in
      number_word_refused (text_to_come c.args.bytes.now (g.R.Read.left c.args.reader.now))
      (text_to_come c.text_number.new.bytes (g.R.Read.left c.text_number.new.reader)) c.in_ok-number.number digits took.come of
      c.in_ok-number.ensures.ends (inr c.if-number-gt-MOST.true);
}
