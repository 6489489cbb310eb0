use Rattle.std.proofs.Common.{arith, sym, ◌∙◌}
use Rattle.std.proofs.lemmas.Bool.{false≢true}
use Rattle.aig_sim.proofs.WitnessLemmas.{zero_is_alone, digits_are, number_more}
use Rattle.aig_sim.proofs.witness.text.position_of.Goals as goal

pub returns-then-has_leading_zero-clause-none : goal.returns-then-has_leading_zero-clause-none
returns-then-has_leading_zero-clause-none c = λ n h.
    let zero = c.has_leading_zero.ensures.0 c.if-has_leading_zero.true in
    let alone = zero_is_alone h zero.1 in
    omega (arith, zero.0, alone.1)

pub returns-in_default-clause-none : goal.returns-in_default-clause-none
returns-in_default-clause-none c = λ n h.
    c.in_default.ensures.none (digits_are h c.loop-digit.digit-index 0 c.loop-digit-test.true)

pub loop-digit-preserved : goal.loop-digit-preserved
loop-digit-preserved c =
    let e = c.in-Some.ensures.some in
    record {
      bound = omega (arith, c.min-position.ensures);
      start = λ z. absurd (omega (arith, z));
      so_far = λ _. number_more c.args.digits.now c.loop-digit.digit-index c.in-Some.value c.loop-digit.position
          c.min-position.result c.loop-digit-test.true e.1 e.0
          (λ h. false≢true (sym c.if-has_leading_zero.false ∙ c.has_leading_zero.ensures.1 h))
          c.loop-digit.invariant.start c.loop-digit.invariant.so_far c.min-position.ensures;
    }
