use Rattle.std.proofs.Common.{◌≡◌, ◌-◌, ◌+◌, subst, sym, ap, ◌∙◌, arith}
use Rattle.aig_prompt.specs.Value.{IsDigit}
use Rattle.aig_prompt.specs.state.Gathered.{Gathers}
use Rattle.aig_prompt.proofs.ValueLemmas.{all_down, bits_down, hexadecimal_ends, not_digit}
use Rattle.aig_prompt.proofs.value.hexadecimal_value.Goals as goal

pub loop-place-preserved : goal.loop-place-preserved
loop-place-preserved c =
    let n = c.loop-place.place in
    let digits = c.args.digits.now in
    let step : (n - 1) + 1 ≡ n = omega (arith, c.loop-place-test.true) in
    let within = c.loop-place.invariant.within in
    record {
      within = omega (arith, within);
      width = c.push_digit.ensures.width ∙ c.loop-place.invariant.width;
      gathered = subst (λ all. Gathers all c.push_digit.new.self) (bits_down digits (n - 1) n _ step within (sym c.in-Some.ensures.value))
          (c.in_ok-push_digit-in-Some.ensures.gathered _ c.loop-place.invariant.gathered);
      digits = all_down (IsDigit 16) digits (n - 1) n step within (_, sym c.in-Some.ensures.value, c.in-Some.ensures.small)
          c.loop-place.invariant.digits;
    }

pub returns-clause-value : goal.returns-clause-value
returns-clause-value c =
    hexadecimal_ends _ c.args.digits.now c.loop-place.place c.end.result (omega (arith, c.loop-place-test.false))
    (sym c.is_empty.ensures ∙ c.if-is_empty.false) c.loop-place.invariant.digits
    (c.end.ensures.gathered _ c.loop-place.invariant.gathered)

pub returns-in-None-clause-refused : goal.returns-in-None-clause-refused
returns-in-None-clause-refused c = λ other bits is h.
    not_digit 16 c.args.digits.now (c.loop-place.place - 1)
    (omega (arith, c.loop-place-test.true, c.loop-place.invariant.within)) c.in-None.ensures.value h.0.1
