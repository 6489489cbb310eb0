use Rattle.aig_bytes.specs.Bytes.{before}
use Rattle.aig_sat.specs.proof.Steps.{text_to_come}
use Rattle.aig_sat.proofs.reading.TextRefusals.{line_refused}
use Rattle.std.proofs.Common.{◌++◌, ◌∷◌, [], arith, ap, ◌∙◌, rules}
use Rattle.std.proofs.lemmas.List.Elements.{All-push}
use Rattle.std.proofs.lemmas.Result.{on_ok_weaker}
use Rattle.aig_sat.specs.proof.ProofText.{IsBlank}
use Rattle.aig_sat.proofs.reading.TakingLemmas.{text_then, before_none}
use Rattle.aig_sat.proofs.proof.text.end_line.Goals as goal

pub loop-preserved : goal.loop-preserved
loop-preserved g c =
    let i = c.loop.invariant in
    let (blanks, all, took) = i.blanks in
    let b = c.skip_blank.new.bytes.previous in
    record {
      count = omega (arith, i.count, c.in_ok-skip_blank.ensures.taken.count);
      never_more = omega (arith, i.never_more, c.in_ok-skip_blank.ensures.taken.never_more);
      blanks = (
        blanks ++ b ∷ [],
        All-push IsBlank blanks b all (c.in_ok-skip_blank.ensures.blank c.if-branch.true),
        text_then took (c.in_ok-skip_blank.ensures.taken.taken c.if-branch.true),
      );
    }

pub returns-clause-line : goal.returns-clause-line
returns-clause-line g c =
    let (blanks, all, took) = c.loop.invariant.blanks in
    on_ok_weaker c.take_lf.result
    (λ last. (blanks, all, text_then took (text_then (c.in_ok-skip_blank.ensures.none c.if-branch.false) last))) c.take_lf.ensures.taken

pub returns-clause-refused : goal.returns-clause-refused
returns-clause-refused g c = record {
  count = search rules;
  never_more = search rules;
  refused = λ at is.
      let (blanks, all, took) = c.loop.invariant.blanks in
      let same = c.in_ok-skip_blank.ensures.none c.if-branch.false in
      line_refused (text_to_come c.args.bytes.now (g.R.Read.left c.args.reader.now)) (text_to_come c.skip_blank.new.bytes (g.R.Read.left c.skip_blank.new.reader)) blanks
      (took.come ∙ ap (before blanks) (same.come ∙ before_none (text_to_come c.skip_blank.new.bytes (g.R.Read.left c.skip_blank.new.reader)))) all
      (c.in_ok-skip_blank.ensures.other c.if-branch.false) (c.take_lf.ensures.refused.refused at is);
}
