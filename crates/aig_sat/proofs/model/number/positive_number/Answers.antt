use Rattle.std.proofs.Common.{◌≡◌, ◌-◌, ◌∷◌, ◌∙◌, length, sym, ap, arith}
use Rattle.std.proofs.lemmas.Option.{IfSome_then}
use Rattle.aig_sat.proofs.models.DigitLemmas.{at_least, decimal_head, no_digits}
use Rattle.aig_bytes.proofs.Decimals.{is_digit, is_no_digit, one_in_front}
use Rattle.aig_sat.proofs.model.number.positive_number.Goals.{then-not-is_ascii_digit-via-then-not-is_ascii_digit}
use Rattle.aig_sat.proofs.model.number.positive_number.Goals.{then-not-is_ascii_digit-via-else-not-is_ascii_digit+then-first-eq48}
use Rattle.aig_sat.proofs.model.number.positive_number.Goals as goal

pub returns-clause-spelled : goal.returns-clause-spelled
returns-clause-spelled c =
    IfSome_then c.longer_number.result c.longer_number.ensures.spelled (λ n e.
    one_in_front c.args.bytes.now c.in_ok-first.rest.now c.in_ok-first.first.now c.in_ok-first.ensures.cases.0
    (is_digit c.in_ok-first.first.now (sym c.is_ascii_digit.ensures.value ∙ c.if-not-is_ascii_digit.false))
    ∙ e)

pub returns-in_err-first-clause-none : goal.returns-in_err-first-clause-none
returns-in_err-first-clause-none c is n some le e =
    no_digits n (omega (arith, le)) (sym (ap length e) ∙ c.in_err-first.ensures.cases)

pub returns-then-not-is_ascii_digit-clause-none : goal.returns-then-not-is_ascii_digit-clause-none
returns-then-not-is_ascii_digit-clause-none c is n some le e =
    let x = c.in_ok-first.first.now in
    let h = decimal_head n (omega (arith, le)) in
    let whole : x ∷ c.in_ok-first.rest.now ≡ h.first ∷ h.rest = sym c.in_ok-first.ensures.cases.0 ∙ e ∙ h.is in
    let same : h.first ≡ x = cc in
    elim c.then-not-is_ascii_digit.branch [
      | then-not-is_ascii_digit-via-then-not-is_ascii_digit w ↦
          is_no_digit x (sym c.is_ascii_digit.ensures.value ∙ w.if-not-is_ascii_digit.true)
          (omega (arith, h.digit.0, same), omega (arith, h.digit.1, same))
      | then-not-is_ascii_digit-via-else-not-is_ascii_digit+then-first-eq48 w ↦
          h.positive some (same ∙ w.if-first-eq48.true)
    ]

pub returns-then-digit-most-clause-none : goal.returns-then-digit-most-clause-none
returns-then-digit-most-clause-none c is n some le e =
    let x = c.in_ok-first.first.now in
    let rest = c.in_ok-first.rest.now in
    let range = is_digit x (sym c.is_ascii_digit.ensures.value ∙ c.if-not-is_ascii_digit.false) in
    let more = at_least (x - 48) n rest (omega (arith, range.0, c.if-first-eq48.false)) (omega (arith, range.1))
    (omega (arith, le)) (sym (one_in_front c.args.bytes.now rest x c.in_ok-first.ensures.cases.0 range) ∙ e) in
    omega (arith, more, c.if-digit-most.true, le)

pub returns-clause-none : goal.returns-clause-none
returns-clause-none c is n some le e =
    c.longer_number.ensures.none is n le
    (sym (one_in_front c.args.bytes.now c.in_ok-first.rest.now c.in_ok-first.first.now c.in_ok-first.ensures.cases.0
    (is_digit c.in_ok-first.first.now (sym c.is_ascii_digit.ensures.value ∙ c.if-not-is_ascii_digit.false))) ∙ e)
