use Rattle.std.proofs.Common.{◌+◌, ◌*◌, ◌/◌, refl, sym, ◌∙◌, arith}
use Rattle.std.proofs.Math.Nat.{div-one}
use Rattle.aig_parts.specs.declared.ternary.Tern.TheVariants.{X}
use Rattle.aig_values.specs.state.LiteralCodes.{signed_value}
use Rattle.aig_values.specs.state.Words.{group_value, value_in}
use Rattle.aig_values.proofs.LiteralLemmas.{signed_same}
use Rattle.aig_values.proofs.WordBits.{group_later, rest_later}
use Rattle.aig_values.proofs.WordText.{piece_more}
use Rattle.aig_values.proofs.row.literal_codes.unpack_known.Goals as goal

pub loop-group-init : goal.loop-group-init
loop-group-init c = record {
  rest = sym (div-one c.args.bits);
  there = λ k lt. absurd (omega arith);
  before = λ k below. refl;
}

pub loop-group-preserved : goal.loop-group-preserved
loop-group-preserved c =
    let bits = c.args.bits in
    let from = c.args.from in
    let g = c.loop-group.group in
    let rest = c.loop-group.rest in
    let four = c.group_of.result in
    let i = c.loop-group.invariant in
    record {
      rest = rest_later bits (4 * g) 4 (4 * (g + 1)) rest i.rest (omega arith);
      there = piece_more X (λ k. signed_value (value_in bits (k / 2)) k) c.loop-group.codes c.unpack_group.new.codes from (8 * g) 8
          (from + 8 * g) (8 * (g + 1)) refl (omega arith) i.there
          (λ k lt. c.unpack_group.ensures.there k lt
          ∙ signed_same (group_value four (k / 2)) (value_in bits ((8 * g + k) / 2)) k (8 * g + k)
          (group_later bits (4 * g) (k / 2) ((8 * g + k) / 2) four rest i.rest (omega arith)
          (c.group_of.ensures.one (k / 2) (omega arith)) (c.group_of.ensures.zero (k / 2) (omega arith))) (omega arith))
          c.unpack_group.ensures.before;
      before = λ k below. c.unpack_group.ensures.before k (omega arith) ∙ i.before k below;
    }

pub returns : goal.returns
returns c = record {
  there = λ k lt. c.loop-group.invariant.there k (omega (arith, c.loop-group-test.false, lt));
  before = c.loop-group.invariant.before;
}
