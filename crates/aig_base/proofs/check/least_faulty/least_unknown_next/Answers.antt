use Rattle.aig_parts.specs.declared.latch.Latch.{Latch}
use Rattle.aig_base.specs.state.LeastFaulty.{IsKnownLiteral}
use Rattle.aig_parts.specs.Literal.{variable}
use Rattle.aig_base.proofs.lists.LeastAmong.{least_more_mapped}
use Rattle.aig_base.proofs.check.least_faulty.least_unknown_next.Goals as goal

pub loop-latch-preserved : goal.loop-latch-preserved
loop-latch-preserved c =
    rw c.lesser-least.ensures
    (least_more_mapped (IsKnownLiteral c.args.table.now) variable (λ
    (x : Latch). x.next) c.args.latches.now c.loop-latch.latch-index c.latch-item.result c.loop-latch.least
    c.unknown.result
    c.loop-latch-test.true c.latch-item.is c.loop-latch.invariant c.unknown.ensures)
