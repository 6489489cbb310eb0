use Rattle.std.proofs.Common.{◌-◌, Some, take, arith, refl, sym, ◌∙◌}
use Rattle.aig_names.proofs.Bits.{bit_none, bit_at, bit_not_at}
use Rattle.aig_names.proofs.vectors.bit_of.Goals as goal

pub returns-in_err-place-clause-bit : goal.returns-in_err-place-clause-bit
returns-in_err-place-clause-bit c =
    rw c.from_residual.ensures (sym (bit_none c.args.name.now c.in_err-place.ensures.none))

pub returns-in_err-digits-clause-bit : goal.returns-in_err-digits-clause-bit
returns-in_err-digits-clause-bit c =
    let at = c.in_ok-place.ensures.some in
    rw c.from_residual-in_err-digits.ensures
    (sym (bit_not_at c.args.name.now _ (c.in_ok-place.place - 1) c.in_ok-place.place (omega (arith, at.0)) at.1 at.2 at.3 refl c.in_err-digits.ensures.none))

pub returns-clause-bit : goal.returns-clause-bit
returns-clause-bit c =
    let name = c.args.name.now in
    let place = c.in_ok-place.place in
    let at = c.in_ok-place.ensures.some in
    let k = c.in_ok-digits.ensures.some in
    (λ i. Some (take (place - 1) name, c.number_of.ensures.value i))
    ∙ sym (bit_at name _ c.in_ok-digits.digits.now (place - 1) place (omega (arith, at.0)) at.1 at.2 refl k.0 k.1)
