use Rattle.std.proofs.Common.{◌≡◌, ◌++◌, map}
use Rattle.std.specs.List.{range_with_len}
use Rattle.aig_unroll.specs.state.FrameTable.{plan_chain_gate, plan_link_before}
use Rattle.aig_unroll.proofs.unrolling.guards.push_chain.Given as goal

abbrev pub invariant-loop-place : goal.invariant-loop-place
invariant-loop-place l = record {
  chain : l.chain ≡ plan_link_before l.plan l.frame l.place;
  to : l.to ≡ l.initial.to ++ map (plan_chain_gate l.plan l.frame l.constraints) (range_with_len 0 l.place);
}
