use Rattle.std.proofs.Common.{◌+◌, ◌-◌, ◌%◌, ◌≡◌, ◌++◌, ◌∷◌, [], ◌∙◌, arith}
use Rattle.std.specs.Prelude.{◌==◌}
use Rattle.aig_prompt.specs.Value.{bit_value}
use Rattle.aig_prompt.proofs.ValueLemmas.{bits_end, bits_more, decimal_ends, decimal_refused}
use Rattle.aig_prompt.proofs.value.decimal_value.Goals as goal

pub loop-left-preserved : goal.loop-left-preserved
loop-left-preserved c =
    let i = c.loop-left.invariant in
    let n = c.loop-left.number in
    let step : (c.loop-left.left - 1) + 1 ≡ c.loop-left.left = omega (arith, c.loop-left-test.true) in
    record {
      width = c.push.ensures.width ∙ i.width;
      all = i.all ++ bit_value (n % 2 == 1) ∷ [];
      gathered = c.in_ok-push.ensures.gathered i.all i.gathered;
      number = bits_more i.all c.loop-left.left (c.loop-left.left - 1) n _ step i.number;
    }

pub returns-clause-value : goal.returns-clause-value
returns-clause-value c =
    let i = c.loop-left.invariant in
    decimal_ends _ c.args.digits.now c.in_ok-number.number i.all c.end.result c.in_ok-number.ensures.number
    c.in_ok-number.ensures.small (bits_end i.all c.loop-left.left c.loop-left.number _ (omega (arith, c.loop-left-test.false)) i.number)
    (c.end.ensures.gathered i.all i.gathered)

pub returns-clause-refused : goal.returns-clause-refused
returns-clause-refused c =
    let i = c.loop-left.invariant in
    rw (← i.width) (decimal_refused c.args.digits.now c.loop-left.bits.width i.all c.end.result
    (bits_end i.all c.loop-left.left c.loop-left.number _ (omega (arith, c.loop-left-test.false)) i.number)
    (c.end.ensures.refused i.all i.gathered))
