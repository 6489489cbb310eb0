use Rattle.std.proofs.Common.{◌≡◌, ℕ, List, eqb, decimal, Some, IsAscii, sym, ap, subst, ◌∙◌, arith}
use Rattle.std.specs.Cmp.Lexicographic.{pointwise}
use Rattle.std.proofs.lemmas.Bool.{false≢true}
use Rattle.std.proofs.lemmas.Fmt.{IsAscii-decimal, parse-decimal}
use Rattle.std.proofs.lemmas.Str.{IsUtf8-from_ascii}
use Rattle.aig_signals.proofs.PropertyLookups.{same_bytes}
use Rattle.aig_signals.proofs.property.number.decimal_of.Goals as goal

pub returns-in-Err-clause-only : goal.returns-in-Err-clause-only
returns-in-Err-clause-only c n small e =
    absurd (c.in-Err.ensures.cases.0 (IsUtf8-from_ascii c.args.word.now (subst IsAscii (sym e) (IsAscii-decimal n (omega (arith, small))))))

pub returns-in_default-clause-only : goal.returns-in_default-clause-only
returns-in_default-clause-only c n small e =
    absurd (c.in_default.not-Ok n (parse-decimal 32 n c.in-Ok.text.now c.parse.result small (omega (arith, small))
    (c.in-Ok.ensures.cases.0 ∙ e) c.parse.ensures.value.0))

pub returns-then-eq-clause-only : goal.returns-then-eq-clause-only
returns-then-eq-clause-only c n small e =
    let is = parse-decimal 32 n c.in-Ok.text.now c.parse.result small (omega (arith, small)) (c.in-Ok.ensures.cases.0 ∙ e)
    c.parse.ensures.value.0 in
    let same : c.in-Ok-parse.number ≡ n = cc (is, c.in-Ok-parse.is) in
    ap Some same

pub returns-else-eq-clause-only : goal.returns-else-eq-clause-only
returns-else-eq-clause-only c n small e =
    let text = c.in-Ok.text.now in
    let is = parse-decimal 32 n text c.parse.result small (omega (arith, small)) (c.in-Ok.ensures.cases.0 ∙ e)
    c.parse.ensures.value.0 in
    let same : c.in-Ok-parse.number ≡ n = cc (is, c.in-Ok-parse.is) in
    let spelled : c.format.result.now ≡ text =
    c.format.ensures.text ∙ ap decimal same ∙ sym (c.in-Ok.ensures.cases.0 ∙ e) in
    absurd (false≢true (sym c.if-eq.false ∙ c.eq.ensures
    ∙ ap (λ (xs : List ℕ). pointwise eqb xs text) spelled ∙ same_bytes text))
