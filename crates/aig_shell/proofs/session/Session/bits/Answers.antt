use Rattle.std.proofs.Common.{sym, subst}
use Rattle.aig_parts.specs.Literal.{variable}
use Rattle.aig_base.specs.Sections.{IsDefined}
use Rattle.aig_shell.proofs.tables.Shown.{bits_more}
use Rattle.aig_shell.proofs.session.Session.bits.Goals as goal

pub value-requires-clause-defined : goal.value-requires-clause-defined
value-requires-clause-defined c =
    subst (λ l. IsDefined c.args.self.now.run.bench.pair.circuit (variable l)) (sym c.literal-item.is)
    (c.requires.defined c.loop-literal.literal-index c.literal-item.result c.loop-literal-test.true)

pub loop-literal-preserved : goal.loop-literal-preserved
loop-literal-preserved c =
    bits_more c.args.self.now.run.bench.pair c.args.frame c.args.literals.now c.loop-literal.literal-index c.literal-item.result
    c.loop-literal.bits.items c.push.new.self.items c.value.result c.loop-literal-test.true c.literal-item.is c.value.ensures
    c.loop-literal.invariant c.in_ok-push.ensures.items
