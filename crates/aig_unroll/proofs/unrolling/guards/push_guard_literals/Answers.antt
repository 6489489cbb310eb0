use Rattle.aig_unroll.specs.state.FrameTable.{plan_guard_literal}
use Rattle.aig_unroll.proofs.FrameSteps.{joined_more}
use Rattle.aig_unroll.proofs.unrolling.guards.push_guard_literals.Goals as goal

pub loop-place-preserved : goal.loop-place-preserved
loop-place-preserved c =
    joined_more (plan_guard_literal c.args.plan.now c.args.frame.now) c.args.to.now c.loop-place.to c.push.new.self
    c.loop-place.place c.gate_literal.result c.loop-place.invariant c.in_ok-push.ensures.ok c.gate_literal.ensures
