use Rattle.std.proofs.Common.{◌+◌, refl, ◌∙◌, arith, get_or-set_other}
use Rattle.aig_parts.specs.declared.ternary.Tern.TheVariants.{X}
use Rattle.aig_values.proofs.WordText.{filled_more}
use Rattle.aig_values.proofs.row.literal_codes.unpack_unknown.Goals as goal

pub loop-place-preserved : goal.loop-place-preserved
loop-place-preserved c =
    let codes = c.loop-place.codes in
    let from = c.args.from in
    let place = c.loop-place.place in
    let i = c.loop-place.invariant in
    record {
      there = filled_more X (λ k. X) codes from place (from + place) c.of.result refl
          (omega (arith, c.requires, c.loop-place.auto.codes, c.loop-place-test.true)) c.of.ensures i.there;
      before = λ k below. get_or-set_other codes (from + place) k c.of.result X (λ e. omega arith) ∙ i.before k below;
    }

pub returns : goal.returns
returns c = record {
  there = λ k lt. c.loop-place.invariant.there k (omega (arith, c.loop-place-test.false, lt));
  before = c.loop-place.invariant.before;
}
