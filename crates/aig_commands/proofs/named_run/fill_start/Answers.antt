use Rattle.std.proofs.Common.{ap, sym, ◌∙◌}
use Rattle.aig_refute.specs.UnrolledWitness.{filled}
use Rattle.aig_commands.proofs.NamedRuns.{start_done, takes_reset, takes_value}
use Rattle.aig_commands.proofs.named_run.fill_start.Goals.{then-value+in_ok-push, else-value+in_ok-push-2}
use Rattle.aig_commands.proofs.named_run.fill_start.Goals as goal

pub loop-latch-preserved : goal.loop-latch-preserved
loop-latch-preserved c = elim c.if-value.branch [
  | then-value+in_ok-push w ↦
      takes_value c.args.latches.now c.loop-latch.latch-index c.latch-item.result c.loop-latch.start.items c.loop-latch.rest.now
      (filled c.args.latches.now c.args.values.now) c.loop-latch-test.true (sym c.latch-item.is) c.loop-latch.invariant
      c.if-value.start.items c.if-value.rest.now w.split_first-value.result.0 (sym c.value.ensures ∙ w.if-value.true ∙ c.value-in-loop-latch.ensures) w.split_first-value.ensures.first
      (ap (λ b. b.now) w.rest-is ∙ w.split_first-value.ensures.rest) (ap (λ v. v.items) w.start-is ∙ w.in_ok-push.ensures.items)
  | else-value+in_ok-push-2 w ↦
      takes_reset c.args.latches.now c.loop-latch.latch-index c.latch-item.result c.loop-latch.start.items c.loop-latch.rest.now
      (filled c.args.latches.now c.args.values.now) c.loop-latch-test.true (sym c.latch-item.is) c.loop-latch.invariant
      c.if-value.start.items c.if-value.rest.now w.first_value.result (λ same. w.if-value.false (c.value.ensures ∙ same ∙ sym c.value-in-loop-latch.ensures)) w.first_value.ensures
      (ap (λ b. b.now) w.rest-is) (ap (λ v. v.items) w.start-is ∙ w.in_ok-push-2.ensures.items)
]

pub returns : goal.returns
returns c =
    start_done c.args.latches.now c.loop-latch.latch-index c.loop-latch.start.items c.loop-latch.rest.now
    (filled c.args.latches.now c.args.values.now) c.loop-latch-test.false c.loop-latch.invariant
