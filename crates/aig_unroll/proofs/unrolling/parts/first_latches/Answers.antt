use Rattle.std.proofs.Common.{◌∙◌, sym, refl, true, false, arith}
use Rattle.aig_unroll.proofs.FrameSteps.{first_more}
use Rattle.aig_unroll.proofs.unrolling.parts.first_latches.Goals.{then-is_uninitialised+in_ok-push}
use Rattle.aig_unroll.proofs.unrolling.parts.first_latches.Goals.{else-is_uninitialised+in_ok-push-2}
use Rattle.aig_unroll.proofs.unrolling.parts.first_latches.Goals as goal

pub loop-latch-preserved : goal.loop-latch-preserved
loop-latch-preserved c = elim c.if-is_uninitialised.branch [
  | then-is_uninitialised+in_ok-push w ↦
      (let (variable, items) = first_more c.args.latches.now c.args.offset c.loop-latch.variable
      c.if-is_uninitialised.variable c.loop-latch.new c.if-is_uninitialised.new c.loop-latch.latch-index w.new.result
      c.latch-item.result true c.loop-latch-test.true c.latch-item.is
      (sym c.is_uninitialised.ensures ∙ w.if-is_uninitialised.true) c.loop-latch.invariant.variable
      c.loop-latch.invariant.new w.variable-is (w.new-is ∙ w.in_ok-push.ensures.ok)
      (w.new.ensures ∙ omega (arith, w.variable-is)) in
      record { variable = variable; new = items })
  | else-is_uninitialised+in_ok-push-2 w ↦
      (let (variable, items) = first_more c.args.latches.now c.args.offset c.loop-latch.variable
      c.if-is_uninitialised.variable c.loop-latch.new c.if-is_uninitialised.new c.loop-latch.latch-index
      c.latch-item.result.reset c.latch-item.result false c.loop-latch-test.true c.latch-item.is
      (sym c.is_uninitialised.ensures ∙ w.if-is_uninitialised.false) c.loop-latch.invariant.variable
      c.loop-latch.invariant.new w.variable-is (w.new-is ∙ w.in_ok-push-2.ensures.ok) refl in
      record { variable = variable; new = items })
]
