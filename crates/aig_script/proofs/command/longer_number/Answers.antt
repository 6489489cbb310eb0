use Rattle.std.proofs.Common.{ℕ, ◌+◌, ◌≤◌, get_or, take, drop, ◌++◌, ◌∷◌, [], List, sym, ap, ◌∙◌, arith, append_assoc}
use Rattle.std.specs.Fmt.{decimal}
use Rattle.std.proofs.lemmas.List.{take_more}
use Rattle.aig_script.proofs.Digits.{grows_on}
use Rattle.aig_bytes.proofs.Decimals.{is_digit, digit_joins, left}
use Rattle.aig_bytes.proofs.Results.{on_none}
use Rattle.aig_script.proofs.command.longer_number.Goals as goal

pub with_digit-requires : goal.with_digit-requires
with_digit-requires c =
    let x = get_or c.args.bytes.now c.loop-at.at 0 in
    let range : (48 ≤ x) × (x ≤ 57) = is_digit x (sym c.is_ascii_digit.ensures.value ∙ c.if-is_ascii_digit.true) in
    omega (arith, range.0, range.1)

pub returns-in_err-longer-clause-none : goal.returns-in_err-longer-clause-none
returns-in_err-longer-clause-none c =
    on_none c.from_residual.result (λ n rest small ends e.
    let xs = c.args.bytes.now in
    let i = c.loop-at.at in
    let m = c.loop-at.number in
    let x = get_or xs i 0 in
    let range : (48 ≤ x) × (x ≤ 57) = is_digit x (sym c.is_ascii_digit.ensures.value ∙ c.if-is_ascii_digit.true) in
    let more = grows_on m n x (drop (i + 1) xs) rest c.loop-at.invariant.some c.loop-at.invariant.fits small range ends
    (left c.args.first m i xs (decimal n ++ rest) c.loop-at-test.true c.loop-at.invariant.spelled e) in
    omega (arith, more, c.in_err-longer.ensures.none, small))

pub loop-at-preserved : goal.loop-at-preserved
loop-at-preserved c =
    let xs = c.args.bytes.now in
    let i = c.loop-at.at in
    let m = c.loop-at.number in
    let x = get_or xs i 0 in
    let range : (48 ≤ x) × (x ≤ 57) = is_digit x (sym c.is_ascii_digit.ensures.value ∙ c.if-is_ascii_digit.true) in
    let is = c.in_ok-longer.ensures.some in
    record {
      some = omega (arith, c.loop-at.invariant.some, is);
      fits = omega (arith, is, c.in_ok-longer.ensures.fits);
      within = omega (arith, c.loop-at-test.true);
      spelled =
          ap (λ (t : List ℕ). decimal c.args.first ++ t) (take_more xs i 0 c.loop-at-test.true)
          ∙ sym (append_assoc (decimal c.args.first) (take i xs) (x ∷ []))
          ∙ ap (λ (t : List ℕ). t ++ x ∷ []) c.loop-at.invariant.spelled
          ∙ digit_joins m x c.loop-at.invariant.some range.0 range.1 (omega (arith, c.in_ok-longer.ensures.fits))
          ∙ ap decimal (sym is);
    }
