use Rattle.std.proofs.Common.{◌∙◌, ap, add-one}
use Rattle.aig_unroll.specs.state.FrameTable.{plan_chain_gate, literal_at}
use Rattle.aig_unroll.proofs.FrameSteps.{joined_more, ready_same, item_at}
use Rattle.aig_unroll.proofs.unrolling.guards.push_chain.Goals as goal

pub loop-place-preserved : goal.loop-place-preserved
loop-place-preserved c = record {
  chain = rw (add-one c.loop-place.place) c.gate_literal-literal.ensures;
  to = joined_more (plan_chain_gate c.args.plan.now c.args.frame.now c.args.constraints.now) c.args.to.now c.loop-place.to
      c.push.new.self c.loop-place.place c.ready_gate.result c.loop-place.invariant.to c.in_ok-push.ensures.ok
      (ready_same c.ready_gate.result c.gate_literal-literal.result c.literal_at.result c.loop-place.chain _ _ _
      c.ready_gate.ensures c.gate_literal-literal.ensures
      (c.literal_at.ensures ∙ ap (literal_at c.args.plan.now c.args.frame.now)
      (item_at c.args.constraints.now c.loop-place.place c.index-constraints-place.result c.loop-place-test.true
      c.index-constraints-place.is))
      c.loop-place.invariant.chain);
}
