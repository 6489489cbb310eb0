use Rattle.std.proofs.Common.{◌+◌, ◌*◌, ◌/◌, refl, ◌∙◌, arith, get_or-set_other}
use Rattle.aig_parts.specs.declared.ternary.Tern.TheVariants.{X}
use Rattle.aig_values.specs.state.LiteralCodes.{signed_value}
use Rattle.aig_values.specs.state.Words.{group_value}
use Rattle.aig_values.proofs.LiteralLemmas.{codes_of_groups, group_code, group_is_code}
use Rattle.aig_values.proofs.WordText.{filled_more}
use Rattle.aig_values.proofs.row.literal_codes.unpack_group.Goals as goal

pub of_bits-requires : goal.of_bits-requires
unfolding codes_of_groups
of_bits-requires c =
    group_is_code _ c.args.group c.loop-place.place (8 * c.args.group + c.loop-place.place) refl c.requires.group
    c.loop-place-test.true refl

pub loop-place-preserved : goal.loop-place-preserved
unfolding codes_of_groups
loop-place-preserved c =
    let codes = c.loop-place.codes in
    let from = c.args.from in
    let place = c.loop-place.place in
    let group = c.args.group in
    let x = c.of_bits.result in
    let i = c.loop-place.invariant in
    record {
      there = filled_more X (λ k. signed_value (group_value group (k / 2)) k) codes from place (from + place) x refl
          (omega (arith, c.requires.room, c.loop-place.auto.codes, c.loop-place-test.true))
          (c.of_bits.ensures ∙ group_code _ group place (8 * group + place) refl c.requires.group c.loop-place-test.true refl)
          i.there;
      before = λ k below. get_or-set_other codes (from + place) k x X (λ e. omega arith) ∙ i.before k below;
    }

pub returns : goal.returns
returns c = record {
  there = λ k lt. c.loop-place.invariant.there k (omega (arith, c.loop-place-test.false, lt));
  before = c.loop-place.invariant.before;
}
