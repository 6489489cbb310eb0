use Rattle.std.proofs.Common.{◌∙◌, ap}
use Rattle.aig_unroll.specs.state.FrameTable.{plan_guard_gate, literal_at}
use Rattle.aig_unroll.proofs.FrameSteps.{joined_more, ready_same, item_at}
use Rattle.aig_unroll.proofs.unrolling.guards.push_guards.Goals as goal

pub loop-place-preserved : goal.loop-place-preserved
loop-place-preserved c =
    joined_more (plan_guard_gate c.args.plan.now c.args.frame.now c.args.bad.now) c.args.to.now c.loop-place.to
    c.push.new.self c.loop-place.place c.ready_gate.result c.loop-place.invariant c.in_ok-push.ensures.ok
    (ready_same c.ready_gate.result c.gate_literal-guard.result c.literal_at.result c.gate_literal-chain.result _ _ _
    c.ready_gate.ensures c.gate_literal-guard.ensures
    (c.literal_at.ensures ∙ ap (literal_at c.args.plan.now c.args.frame.now)
    (item_at c.args.bad.now c.loop-place.place c.index-bad-place.result c.loop-place-test.true c.index-bad-place.is))
    c.gate_literal-chain.ensures)
