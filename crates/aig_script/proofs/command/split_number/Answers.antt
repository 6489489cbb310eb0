use Rattle.std.proofs.Common.{ℕ, List, ◌∷◌, length, get_or, drop, sym, ap, ◌∙◌, arith, length-append}
use Rattle.std.specs.Fmt.{decimal}
use Rattle.std.proofs.lemmas.Fmt.{decimal_nonempty}
use Rattle.std.proofs.lemmas.List.{drop_more}
use Rattle.std.proofs.lemmas.Option.{IfSome_then}
use Rattle.aig_bytes.proofs.Results.{on_none, none_then}
use Rattle.aig_script.proofs.Digits.{digit_in_front, zero_in_front, leading_zero}
use Rattle.aig_bytes.proofs.Decimals.{is_digit, is_no_digit, one_in_front}
use Rattle.aig_script.proofs.command.split_number.Goals as goal

pub returns-in_err-first-clause-none : goal.returns-in_err-first-clause-none
returns-in_err-first-clause-none c =
    on_none c.from_residual.result (λ n rest small ends e.
    let some = decimal_nonempty n (omega arith) in
    omega (arith, some, c.in_err-first.ensures.cases, ap length e, length-append (decimal n) rest))

pub returns-then-not-is_ascii_digit-clause-none : goal.returns-then-not-is_ascii_digit-clause-none
returns-then-not-is_ascii_digit-clause-none c n rest small ends e =
    let first = c.in_ok-first.first.now in
    is_no_digit first (sym c.is_ascii_digit.ensures.value ∙ c.if-not-is_ascii_digit.true)
    (digit_in_front first n c.in_ok-first.rest.now rest small (sym c.in_ok-first.ensures.cases.0 ∙ e))

pub returns-then-first-gt48-clause-some : goal.returns-then-first-gt48-clause-some
returns-then-first-gt48-clause-some c =
    let first = c.in_ok-first.first.now in
    let range = is_digit first (sym c.is_ascii_digit.ensures.value ∙ c.if-not-is_ascii_digit.false) in
    let is = one_in_front c.args.bytes.now c.in_ok-first.rest.now first c.in_ok-first.ensures.cases.0 range in
    IfSome_then c.longer_number.result c.longer_number.ensures.some (λ parts e. is ∙ e)

pub returns-then-first-gt48-clause-none : goal.returns-then-first-gt48-clause-none
returns-then-first-gt48-clause-none c =
    let first = c.in_ok-first.first.now in
    let range = is_digit first (sym c.is_ascii_digit.ensures.value ∙ c.if-not-is_ascii_digit.false) in
    let is = one_in_front c.args.bytes.now c.in_ok-first.rest.now first c.in_ok-first.ensures.cases.0 range in
    none_then c.longer_number.result (λ h n rest small ends e. h n rest small ends (sym is ∙ e)) c.longer_number.ensures.none

pub returns-in-len1-up-clause-none : goal.returns-in-len1-up-clause-none
returns-in-len1-up-clause-none c n rest small ends e =
    let first = c.in_ok-first.first.now in
    let more = c.in_ok-first.rest.now in
    let range = is_digit first (sym c.is_ascii_digit.ensures.value ∙ c.if-not-is_ascii_digit.false) in
    let next = is_digit (get_or more 0 0) (sym c.is_ascii_digit-2.ensures.value ∙ c.if-is_ascii_digit.true) in
    leading_zero first (get_or more 0 0) n (drop 1 more) rest range.0 c.if-first-gt48.false next small ends
    (ap (λ (t : List ℕ). first ∷ t) (sym (drop_more more 0 0 (omega (arith, c.in-len1-up.len_at_least)))) ∙ sym c.in_ok-first.ensures.cases.0 ∙ e)

pub returns-in_default-clause-some : goal.returns-in_default-clause-some
returns-in_default-clause-some c =
    let first = c.in_ok-first.first.now in
    let range = is_digit first (sym c.is_ascii_digit.ensures.value ∙ c.if-not-is_ascii_digit.false) in
    zero_in_front c.args.bytes.now c.in_ok-first.rest.now first c.in_ok-first.ensures.cases.0 range.0 c.if-first-gt48.false
