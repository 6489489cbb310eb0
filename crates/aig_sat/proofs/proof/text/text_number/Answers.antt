use Rattle.std.proofs.Common.{◌≤◌, ◌∙◌, ◌+◌, ◌++◌, ◌∷◌, [], ℕ, List, Option, ap, subst, arith}
use Rattle.std.specs.Prelude.{IfSome}
use Rattle.std.proofs.lemmas.Fmt.{decimal_digit}
use Rattle.aig_sat.specs.proof.state.Taking.{IsNumber, digits_of}
use Rattle.aig_sat.proofs.reading.TakingLemmas.{text_as, text_then}
use Rattle.aig_sat.proofs.reading.TextRefusals.{first_number}
use Rattle.aig_sat.proofs.proof.text.text_number.Goals as goal

pub returns-then-first-eq0-clause-number : goal.returns-then-first-eq0-clause-number
returns-then-first-eq0-clause-number g c = (
  48 ∷ [],
  first_number 0 (omega arith),
  text_as (ap digits_of c.in-Some.is ∙ ap (λ (d : ℕ). (48 + d) ∷ []) c.if-first-eq0.true) c.in_ok-first.ensures.taken.taken,
)

pub returns-clause-number : goal.returns-clause-number
returns-clause-number g c =
    let d = c.in-Some.first in
    let digit : d ≤ 9 = subst (λ (o : Option ℕ). IfSome o (λ x. x ≤ 9)) c.in-Some.is c.in_ok-first.ensures.digit in
    let took = text_as (ap digits_of c.in-Some.is) c.in_ok-first.ensures.taken.taken in
    let (digits, is, took') = c.in_ok-take_digits.ensures.number.taken in (
      (48 + d) ∷ digits,
      subst (λ (t : List ℕ). IsNumber c.in_ok-take_digits.field-0 (t ++ digits)) (decimal_digit d (omega (arith, digit))) is,
      text_then took took',
    )
