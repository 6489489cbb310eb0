use Rattle.std.proofs.Common.{ℕ, ◌+◌, ◌≤◌, get_or, take, drop, ◌++◌, ◌∷◌, [], List, sym, ap, ◌∙◌, arith, append_assoc}
use Rattle.std.specs.Fmt.{decimal}
use Rattle.std.proofs.lemmas.List.{take_more}
use Rattle.aig_bytes.proofs.Decimals.{is_digit, is_no_digit, digit_after, digit_joins, grows, left}
use Rattle.aig_sat.proofs.model.number.longer_number.Goals as goal

pub loop-digit-preserved : goal.loop-digit-preserved
loop-digit-preserved c =
    let xs = c.args.digits.now in
    let i = c.loop-digit.digit-index in
    let m = c.loop-digit.number in
    let x = get_or xs i 0 in
    let range : (48 ≤ x) × (x ≤ 57) = is_digit x (sym c.is_ascii_digit.ensures.value ∙ c.if-not-is_ascii_digit.false) in
    record {
      some = omega (arith, c.loop-digit.invariant.some);
      most = omega (arith, c.if-longer-most.false);
      spelled =
          ap (λ (t : List ℕ). decimal c.args.first ++ t) (take_more xs i 0 c.loop-digit-test.true)
          ∙ sym (append_assoc (decimal c.args.first) (take i xs) (x ∷ []))
          ∙ ap (λ (t : List ℕ). t ++ x ∷ []) c.loop-digit.invariant.spelled
          ∙ digit_joins m x c.loop-digit.invariant.some range.0 range.1 (omega (arith, c.if-longer-most.false));
    }

pub returns-then-not-is_ascii_digit-clause-none : goal.returns-then-not-is_ascii_digit-clause-none
returns-then-not-is_ascii_digit-clause-none c is n le e =
    let xs = c.args.digits.now in
    let i = c.loop-digit.digit-index in
    let m = c.loop-digit.number in
    let x = get_or xs i 0 in
    is_no_digit x (sym c.is_ascii_digit.ensures.value ∙ c.if-not-is_ascii_digit.true)
    (digit_after (decimal m) (drop (i + 1) xs) x n
    (left c.args.first m i xs (decimal n) c.loop-digit-test.true c.loop-digit.invariant.spelled e))

pub returns-then-longer-most-clause-none : goal.returns-then-longer-most-clause-none
returns-then-longer-most-clause-none c is n le e =
    let xs = c.args.digits.now in
    let i = c.loop-digit.digit-index in
    let m = c.loop-digit.number in
    let x = get_or xs i 0 in
    let range : (48 ≤ x) × (x ≤ 57) = is_digit x (sym c.is_ascii_digit.ensures.value ∙ c.if-not-is_ascii_digit.false) in
    let more = grows m n x (drop (i + 1) xs) c.loop-digit.invariant.some (omega (arith, c.loop-digit.invariant.most))
    (omega (arith, le)) (left c.args.first m i xs (decimal n) c.loop-digit-test.true c.loop-digit.invariant.spelled e) in
    omega (arith, more, c.if-longer-most.true, le)
