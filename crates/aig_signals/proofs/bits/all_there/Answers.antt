use Rattle.std.proofs.Common.{sym, ◌∙◌}
use Rattle.aig_signals.proofs.BitLemmas.{there_more, there_missing, there_end}
use Rattle.aig_signals.proofs.bits.all_there.Goals as goal

pub returns-in_default : goal.returns-in_default
returns-in_default c =
    there_missing c.args.table.now c.loop-literal.literal-index c.loop-literal.literals _ c.literal-item.result c.loop-literal-test.true
    (sym c.literal-item.is ∙ c.in_default.is) c.loop-literal.invariant

pub loop-literal-preserved : goal.loop-literal-preserved
loop-literal-preserved c =
    there_more c.args.table.now c.loop-literal.literal-index c.loop-literal.literals _ c.literal-item.result _ c.in-Some.literal
    c.loop-literal-test.true (sym c.literal-item.is ∙ c.in-Some.is) c.in_ok-push.ensures.ok c.loop-literal.invariant

pub returns : goal.returns
returns c = there_end c.args.table.now c.loop-literal.literal-index c.loop-literal.literals _ c.loop-literal-test.false c.loop-literal.invariant
