use Rattle.std.proofs.Common.{◌∷◌, map, ap, ◌∙◌}
use Rattle.aig_base.specs.state.LeastFaulty.{latch_variable}
use Rattle.aig_parts.specs.Literal.{variable}
use Rattle.aig_base.proofs.circuits.Entering.{one_more, one_more_first}
use Rattle.aig_base.proofs.checks.Marking.{moves_from_mark, started_more, started_same}
use Rattle.aig_base.proofs.check.grounded.Marking.of_sources.Goals as goal

pub loop-input-init : goal.loop-input-init
loop-input-init c =
    let moves = moves_from_mark c.in_ok-mark.ensures in
    record {
      started = started_more _ c.in_ok-marking.ensures.started c.in_ok-mark.ensures;
      below = moves.below c.in_ok-marking.ensures.below;
      size = moves.size ∙ c.in_ok-marking.ensures.size;
    }

pub loop-input-preserved : goal.loop-input-preserved
loop-input-preserved c =
    let i = c.loop-input.invariant in
    let moves = moves_from_mark c.in_ok-mark-2.ensures in
    record {
      started = started_same _ _ _ _
          (ap (λ vs. 0 ∷ vs) (one_more_first variable c.args.inputs.now c.loop-input.input-index c.var.result
          c.input-item.result c.loop-input-test.true c.input-item.is c.var.ensures))
          (started_more _ i.started c.in_ok-mark-2.ensures);
      below = moves.below i.below;
      size = moves.size ∙ i.size;
    }

pub loop-latch-preserved : goal.loop-latch-preserved
loop-latch-preserved c =
    let i = c.loop-latch.invariant in
    let moves = moves_from_mark c.in_ok-mark-3.ensures in
    record {
      started = started_same _ _ _ _
          (one_more (0 ∷ map variable c.args.inputs.now) latch_variable c.args.latches.now c.loop-latch.latch-index
          c.var-in-loop-latch.result c.latch-item.result c.loop-latch-test.true c.latch-item.is
          c.var-in-loop-latch.ensures)
          (started_more _ i.started c.in_ok-mark-3.ensures);
      below = moves.below i.below;
      size = moves.size ∙ i.size;
    }
