use Rattle.std.proofs.Common.{◌≡◌, ℕ, ◌<◌, length, get_or, sym, ap, ◌∙◌, arith}
use Rattle.std.proofs.lemmas.Bool.{false≢true}
use Rattle.std.proofs.lemmas.List.{get_or_read}
use Rattle.aig_parts.specs.Literal.{negation, variable}
use Rattle.aig_certificate.proofs.Entered.{by_odd, by_straight}
use Rattle.aig_certificate.proofs.translation.Translation.literal.Goals as goal

pub returns-then-is_neg : goal.returns-then-is_neg
returns-then-is_neg c =
    let table = c.args.self.now.table in
    let l = c.args.literal in
    let lt : c.var.result < length table = omega (arith, c.requires, c.var.ensures) in
    let value : c.index-value.result.now ≡ get_or table (variable l) 0 =
    get_or_read table c.var.result _ lt c.index-value.ensures 0 ∙ ap (λ (n : ℕ). get_or table n 0) c.var.ensures in
    c.not.ensures ∙ ap negation value ∙ sym (by_odd table l (c.is_neg.ensures.0 c.if-is_neg.true))

pub returns-else-is_neg : goal.returns-else-is_neg
returns-else-is_neg c =
    let table = c.args.self.now.table in
    let l = c.args.literal in
    let lt : c.var.result < length table = omega (arith, c.requires, c.var.ensures) in
    let value : c.index-value.result.now ≡ get_or table (variable l) 0 =
    get_or_read table c.var.result _ lt c.index-value.ensures 0 ∙ ap (λ (n : ℕ). get_or table n 0) c.var.ensures in
    value ∙ sym (by_straight table l (λ h. false≢true (sym c.if-is_neg.false ∙ c.is_neg.ensures.1 h)))
