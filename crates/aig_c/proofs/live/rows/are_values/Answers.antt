use Rattle.std.proofs.Common.{◌≤◌, length, refl, subst, arith}
use Rattle.std.specs.Prelude.{All}
use Rattle.std.proofs.lemmas.List.{take_all}
use Rattle.std.proofs.lemmas.List.Elements.{All-more}
use Rattle.aig_c.specs.Rows.{IsValue}
use Rattle.aig_c.proofs.live.rows.are_values.Goals as goal

pub loop-number-preserved : goal.loop-number-preserved
loop-number-preserved c =
    All-more IsValue c.args.numbers.now c.loop-number.number-index 0 c.loop-number-test.true c.loop-number.invariant
    (omega (arith, c.if-number-gt2.false))

pub returns : goal.returns
returns c =
    let numbers = c.args.numbers.now in
    let whole : length numbers ≤ c.loop-number.number-index = omega (arith, c.loop-number-test.false) in
    record {
      values = (λ is. subst (λ xs. All IsValue xs) (take_all c.loop-number.number-index numbers whole) c.loop-number.invariant, λ all. refl);
    }
