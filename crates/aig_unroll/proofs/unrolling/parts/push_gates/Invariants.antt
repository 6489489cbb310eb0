use Rattle.std.proofs.Common.{◌≡◌, ◌++◌, map, take}
use Rattle.aig_unroll.specs.state.FrameTable.{plan_gate}
use Rattle.aig_unroll.proofs.unrolling.parts.push_gates.Given as goal

abbrev pub invariant-loop-gate : goal.invariant-loop-gate
invariant-loop-gate l = l.to ≡ l.initial.to ++ map (plan_gate l.plan l.frame) (take l.gate-index l.gates)
