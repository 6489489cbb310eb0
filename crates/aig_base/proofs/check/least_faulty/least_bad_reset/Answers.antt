use Rattle.std.proofs.Common.{Some, sym, ◌∙◌, true≢false}
use Rattle.aig_base.specs.state.LeastFaulty.{latch_variable}
use Rattle.aig_base.specs.Sound.{IsReset}
use Rattle.aig_base.proofs.lists.LeastAmong.{least_more, least_kept, bad_one}
use Rattle.aig_base.proofs.check.least_faulty.least_bad_reset.Goals as goal
use Rattle.aig_base.proofs.check.least_faulty.least_bad_reset.Goals.{then-not-is_reset, else-not-is_reset}

pub loop-latch-preserved : goal.loop-latch-preserved
loop-latch-preserved c =
    let x = c.latch-item.result in
    elim c.if-not-is_reset.branch [
      | then-not-is_reset w ↦
          rw (w.least-is, w.lesser-least.ensures)
          (least_more IsReset latch_variable c.args.latches.now c.loop-latch.latch-index x c.loop-latch.least
          (Some w.var.result)
          c.loop-latch-test.true c.latch-item.is c.loop-latch.invariant
          (bad_one IsReset latch_variable x w.var.result w.var.ensures (λ good. true≢false (sym
          (c.is_reset.ensures.1 good) ∙ w.if-not-is_reset.true))))
      | else-not-is_reset w ↦
          rw w.least-is
          (least_kept IsReset latch_variable c.args.latches.now c.loop-latch.latch-index x c.loop-latch.least
          c.loop-latch-test.true c.latch-item.is c.loop-latch.invariant (c.is_reset.ensures.0 w.if-not-is_reset.false))
    ]
