use Rattle.std.proofs.Common.{◌≡◌, ◌++◌, map}
use Rattle.std.specs.List.{range_with_len}
use Rattle.aig_unroll.specs.state.FrameTable.{plan_guard_literal}
use Rattle.aig_unroll.proofs.unrolling.guards.push_guard_literals.Given as goal

abbrev pub invariant-loop-place : goal.invariant-loop-place
invariant-loop-place l = l.to ≡ l.initial.to ++ map (plan_guard_literal l.plan l.frame) (range_with_len 0 l.place)
