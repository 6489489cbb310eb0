use Rattle.aig_sat.specs.proof.Steps.{text_to_come}
use Rattle.aig_sat.proofs.models.ModelLemmas.{passed_fault}
use Rattle.aig_sat.proofs.reading.TextRefusals.{goes_on_if, no_clause, word_lacks}
use Rattle.std.proofs.Common.{◌++◌, rules}
use Rattle.std.proofs.lemmas.Result.{IfOk-weaker}
use Rattle.aig_sat.proofs.reading.TakingLemmas.{gap_whole, text_then, word_below, word_on}
use Rattle.aig_sat.proofs.proof.text.text_literal.Goals as goal

pub returns-clause-literal : goal.returns-clause-literal
returns-clause-literal g c =
    let (xs, leads, took) = c.in_ok-skip_gap.ensures.gap in
    IfOk-weaker c.text_word.result _ _
    (λ next h. (
      xs ++ h.0,
      word_on c.args.is_first c.args.bytes.now.previous c.skip_gap.new.bytes.previous c.text_word.new.bytes.previous xs h.0 next
          leads h.1,
      text_then took h.2,
    ))
    c.text_word.ensures.word

pub returns-clause-variable : goal.returns-clause-variable
returns-clause-variable g c =
    IfOk-weaker c.text_word.result _ _
    (λ next h. word_below c.args.is_first c.text_word.new.bytes.previous h.0 next h.1) c.text_word.ensures.word

pub returns-in_err-skip_gap-clause-refused : goal.returns-in_err-skip_gap-clause-refused
returns-in_err-skip_gap-clause-refused g c = record {
  count = search rules;
  lowers = search rules;
  refused = λ at is.
      no_clause (text_to_come c.args.bytes.now (g.R.Read.left c.args.reader.now)) c.args.is_first c.args.bytes.now.previous (c.skip_gap.ensures.refused.refused at (passed_fault c.skip_gap.result c.from_residual.result c.in_err-skip_gap.field-0.0 _ c.in_err-skip_gap.was c.from_residual.ensures.1 is));
}

pub returns-clause-refused : goal.returns-clause-refused
returns-clause-refused g c = record {
  count = search rules;
  lowers = search rules;
  refused = λ at is h.
      let (xs, leads, took) = c.in_ok-skip_gap.ensures.gap in
      let word = word_lacks (text_to_come c.args.bytes.now (g.R.Read.left c.args.reader.now)) (text_to_come c.skip_gap.new.bytes (g.R.Read.left c.skip_gap.new.reader)) c.args.is_first c.args.bytes.now.previous c.skip_gap.new.bytes.previous xs took.come took.previous
      (gap_whole xs leads) c.in_ok-skip_gap.ensures.whole in
      c.text_word.ensures.refused.refused at is (word h);
}

pub returns-clause-goes_on : goal.returns-clause-goes_on
returns-clause-goes_on g c =
    let (xs, leads, took) = c.in_ok-skip_gap.ensures.gap in
    let word = word_lacks (text_to_come c.args.bytes.now (g.R.Read.left c.args.reader.now)) (text_to_come c.skip_gap.new.bytes (g.R.Read.left c.skip_gap.new.reader)) c.args.is_first c.args.bytes.now.previous c.skip_gap.new.bytes.previous xs took.come took.previous
    (gap_whole xs leads) c.in_ok-skip_gap.ensures.whole in
    IfOk-weaker c.text_word.result _ _
    (λ next h. goes_on_if (text_to_come c.skip_gap.new.bytes (g.R.Read.left c.skip_gap.new.reader)) (text_to_come c.text_word.new.bytes (g.R.Read.left c.text_word.new.reader)) c.args.is_first c.text_word.new.bytes.previous h.0 next
    (text_to_come c.args.bytes.now (g.R.Read.left c.args.reader.now)) c.args.bytes.now.previous h.2.come h.1 word)
    c.text_word.ensures.word
