use Rattle.std.proofs.Common.{◌≡◌, ◌+◌, ◌*◌, ◌/◌, length, set, get_or, refl, ap, ◌∙◌, subst, arith}
use Rattle.aig_values.specs.Cells.{HasVariablesBelow}
use Rattle.aig_values.proofs.LiteralLemmas.{codes_after}
use Rattle.aig_values.proofs.SweepLemmas.{item_is}
use Rattle.aig_values.proofs.row.literal_codes.sweep_codes.Goals as goal

pub loop-gate-preserved : goal.loop-gate-preserved
loop-gate-preserved c row is =
    let codes = c.loop-gate.codes in
    let g = c.gate-item.result in
    let places =
    item_is (HasVariablesBelow (length c.args.codes.now / 2)) c.args.gates.now c.loop-gate.gate-index g c.requires
    c.loop-gate-test.true c.gate-item.is in
    let at0 = subst (λ l. c.index-codes-value.result ≡ get_or codes l c.index-codes-value.result) c.value.ensures
    c.index-codes-value.is in
    let at1 = subst (λ l. c.index-codes-value-in-loop-gate.result ≡ get_or codes l c.index-codes-value-in-loop-gate.result)
    c.value-in-loop-gate.ensures c.index-codes-value-in-loop-gate.is in
    ap (set (set codes (2 * c.var.result) c.and-code.result) (2 * c.var.result + 1)) (c.with_sign.ensures.negated refl)
    ∙ codes_after row codes c.args.gates.now c.loop-gate.gate-index g c.var.result c.and-code.result
    c.index-codes-value.result c.index-codes-value-in-loop-gate.result c.loop-gate-test.true c.gate-item.is
    (c.loop-gate.invariant row is)
    (omega (arith, places.rhs0, c.loop-gate.auto.codes)) (omega (arith, places.rhs1, c.loop-gate.auto.codes)) at0 at1
    c.var.ensures c.and-code.ensures
