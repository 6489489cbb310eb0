use Rattle.std.proofs.Common.{◌≤◌, ◌+◌, ◌++◌, ◌∷◌, ◌∙◌, [], ℕ, Option, refl, sym, ap, subst, arith, rules}
use Rattle.std.specs.Fmt.{decimal}
use Rattle.std.proofs.lemmas.Fmt.{decimal_digit}
use Rattle.std.proofs.lemmas.List.{append-nil}
use Rattle.std.specs.Prelude.{IfSome}
use Rattle.aig_sat.specs.proof.state.Taking.{IsNumber, digits_of}
use Rattle.aig_sat.proofs.reading.TakingLemmas.{before_none, text_as, text_then}
use Rattle.aig_sat.proofs.reading.TextRefusals.{first_number, number_more}
use Rattle.aig_sat.proofs.proof.text.take_digits.Goals as goal

pub loop-digit-init : goal.loop-digit-init
loop-digit-init g c =
    let d = c.args.first in
    record {
      count = search rules;
      never_more = search rules;
      some = c.requires.some;
      bound = omega (arith, c.requires.digit);
      number = (
        [],
        subst (IsNumber d) (sym (append-nil (decimal d) ∙ decimal_digit d (omega (arith, c.requires.digit))))
            (first_number d c.requires.digit),
        record { come = sym (before_none _); previous = refl },
      );
    }

pub loop-digit-preserved : goal.loop-digit-preserved
loop-digit-preserved g c =
    let i = c.loop-digit.invariant in
    let (digits, is, took) = i.number in
    let d = c.in-Some.digit in
    let digit : d ≤ 9 = subst (λ (o : Option ℕ). IfSome o (λ x. x ≤ 9)) c.in-Some.is c.in_ok-digit.ensures.digit in
    record {
      count = omega (arith, i.count, c.in_ok-digit.ensures.taken.count);
      never_more = omega (arith, i.never_more, c.in_ok-digit.ensures.taken.never_more);
      some = c.with_digit-number.ensures.some i.some;
      bound = c.with_digit-number.ensures.bound;
      number = (
        digits ++ (48 + d) ∷ [],
        number_more c.args.first c.loop-digit.number c.with_digit-number.result d digits is i.some digit c.requires.some
            c.requires.digit c.with_digit-number.ensures.number c.with_digit-number.ensures.over c.with_digit-number.ensures.bound,
        text_then took (text_as (ap digits_of c.in-Some.is) c.in_ok-digit.ensures.taken.taken),
      );
    }
