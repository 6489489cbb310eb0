use Rattle.aig_base.specs.state.LeastFaulty.{IsKnownLiteral}
use Rattle.aig_parts.specs.Literal.{variable}
use Rattle.aig_base.proofs.lists.LeastAmong.{least_more}
use Rattle.aig_base.proofs.check.least_faulty.least_unknown.Goals as goal

pub loop-literal-preserved : goal.loop-literal-preserved
loop-literal-preserved c =
    rw c.lesser-least.ensures
    (least_more (IsKnownLiteral c.args.table.now) variable c.args.literals.now c.loop-literal.literal-index
    c.literal-item.result c.loop-literal.least c.unknown.result
    c.loop-literal-test.true c.literal-item.is c.loop-literal.invariant c.unknown.ensures)
