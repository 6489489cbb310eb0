use Rattle.aig_sat.specs.proof.Steps.{text_to_come}
use Rattle.aig_sat.proofs.models.ModelLemmas.{passed_fault}
use Rattle.aig_sat.proofs.reading.TextRefusals.{gap_unfinished}
use Rattle.std.proofs.Common.{◌++◌, arith, rules}
use Rattle.aig_sat.proofs.reading.TakingLemmas.{gap_on, text_then, gap_whole}
use Rattle.aig_sat.proofs.proof.text.skip_gap.Goals as goal

pub loop-preserved : goal.loop-preserved
loop-preserved g c =
    let i = c.loop.invariant in
    let (xs, leads, took) = i.gap in
    let (ys, leads', took') = c.in_ok-skip_space.ensures.gap in
    record {
      count = omega (arith, i.count, c.in_ok-skip_space.ensures.refused.count);
      never_more = omega (arith, i.never_more, c.in_ok-skip_space.ensures.refused.never_more);
      gap = (xs ++ ys, gap_on xs ys leads leads', text_then took took');
    }

pub returns-clause-gap : goal.returns-clause-gap
returns-clause-gap g c =
    let (xs, leads, took) = c.loop.invariant.gap in
    let (ys, leads', took') = c.in_ok-skip_space.ensures.gap in
    (xs ++ ys, gap_on xs ys leads leads', text_then took took')

pub returns-in_err-skip_space-clause-refused : goal.returns-in_err-skip_space-clause-refused
returns-in_err-skip_space-clause-refused g c = record {
  count = search rules;
  never_more = search rules;
  refused = λ at is.
      let (xs, leads, took) = c.loop.invariant.gap in
      gap_unfinished (text_to_come c.args.bytes.now (g.R.Read.left c.args.reader.now)) (text_to_come c.loop.bytes (g.R.Read.left c.loop.reader)) c.args.bytes.now.previous c.loop.bytes.previous xs took.come took.previous
      (gap_whole xs leads) (c.skip_space.ensures.refused.refused at (passed_fault c.skip_space.result c.from_residual.result c.in_err-skip_space.field-0.0 _ c.in_err-skip_space.was c.from_residual.ensures.1 is));
}
