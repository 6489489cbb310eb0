use Rattle.std.proofs.Common.{◌≡◌, ℕ, ◌+◌, ◌-◌, ◌^◌, ◌/◌, refl, sym, ap, ◌∙◌, arith, get_or-set_other}
use Rattle.std.proofs.Math.Nat.{div-one}
use Rattle.aig_values.specs.Characters.{character}
use Rattle.aig_values.specs.state.Words.{value_in}
use Rattle.aig_values.proofs.WordBits.{group_later, rest_later, value_later}
use Rattle.aig_values.proofs.WordText.{filled_more, piece_more}
use Rattle.aig_values.proofs.row.plane_row.spell_word.Goals as goal

pub loop-at-init : goal.loop-at-init
loop-at-init c =
    let none : 0 ≡ c.args.from - c.args.from = omega arith in
    record {
      range = omega arith;
      inside = c.requires.range;
      rest = sym (div-one c.args.bits) ∙ ap (λ i. c.args.bits / 2 ^ i) none;
      there = λ k lt. absurd (omega arith);
      before = λ k below. refl;
    }

pub loop-at-preserved : goal.loop-at-preserved
loop-at-preserved c =
    let bits = c.args.bits in
    let from = c.args.from in
    let at = c.loop-at.at in
    let rest = c.loop-at.rest in
    let group = c.group_of.result in
    let i = c.loop-at.invariant in
    let done : ℕ = at - from in
    let place : at ≡ from + done = omega (arith, i.range) in
    let next : at + 4 - from ≡ done + 4 = omega (arith, i.range) in
    record {
      range = omega (arith, i.range);
      inside = omega (arith, i.inside);
      rest = rest_later bits done 4 (at + 4 - from) rest i.rest next;
      there = piece_more 0 (λ k. character (value_in bits k)) c.loop-at.text c.spell_group.new.text from done 4 at (at + 4 - from)
          place next i.there
          (λ k lt. c.spell_group.ensures.there k lt
          ∙ ap character (group_later bits done k (done + k) group rest i.rest refl (c.group_of.ensures.one k lt)
          (c.group_of.ensures.zero k lt)))
          c.spell_group.ensures.before;
      before = λ k below. c.spell_group.ensures.before k (omega (arith, i.range, below)) ∙ i.before k below;
    }

pub loop-at-2-preserved : goal.loop-at-2-preserved
loop-at-2-preserved c =
    let bits = c.args.bits in
    let from = c.args.from in
    let at = c.loop-at-2.at in
    let rest = c.loop-at-2.rest in
    let text = c.loop-at-2.text in
    let ch = c.character_of.result in
    let i = c.loop-at-2.invariant in
    let done : ℕ = at - from in
    let place : at ≡ from + done = omega (arith, i.range) in
    let next : at + 1 - from ≡ done + 1 = omega (arith, i.range) in
    let same : done + 0 ≡ done = omega arith in
    record {
      range = omega (arith, i.range);
      inside = omega arith;
      rest = rest_later bits done 1 (at + 1 - from) rest i.rest next;
      there = λ k lt. filled_more 0 (λ k. character (value_in bits k)) text from done at ch place
          (omega (arith, c.requires.room, c.loop-at-2-test.true, c.loop-at-2.auto.text))
          (c.character_of.ensures
          ∙ ap character (ap (λ r. value_in r 0) i.rest ∙ value_later bits done 0 ∙ ap (value_in bits) same))
          i.there k (omega (arith, next, lt));
      before = λ k below. get_or-set_other text at k ch 0 (λ e. omega (arith, i.range, below, e)) ∙ i.before k below;
    }

pub returns-clause-there : goal.returns-clause-there
returns-clause-there c k lt = c.loop-at-2.invariant.there k (omega (arith, lt, c.loop-at-2-test.false))
