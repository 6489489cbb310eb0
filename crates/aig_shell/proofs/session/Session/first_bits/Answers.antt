use Rattle.std.proofs.Common.{sym, subst}
use Rattle.aig_parts.specs.Literal.{variable}
use Rattle.aig_base.specs.Sections.{IsDefined}
use Rattle.aig_shell.proofs.tables.Differences.{first_more}
use Rattle.aig_shell.proofs.session.Session.first_bits.Goals as goal

pub loop-literal-preserved : goal.loop-literal-preserved
loop-literal-preserved c = λ p h lt known.
    let here =
    subst (λ l. IsDefined p.circuit (variable l)) (sym c.literal-item.is)
    (known c.loop-literal.literal-index c.literal-item.result c.loop-literal-test.true) in
    first_more c.args.self.now.first p c.args.frame c.args.literals.now c.loop-literal.literal-index c.literal-item.result
    c.loop-literal.bits.items c.push.new.self.items c.value-value.result h.keeps here lt c.loop-literal-test.true c.literal-item.is
    c.value-value.ensures.some c.value-value.ensures.none (c.loop-literal.invariant p h lt known) c.in_ok-push.ensures.items
