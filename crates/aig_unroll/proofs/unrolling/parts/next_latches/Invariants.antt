use Rattle.std.proofs.Common.{◌≡◌, map, take}
use Rattle.aig_unroll.specs.state.FrameTable.{literal_at}
use Rattle.aig_unroll.proofs.unrolling.parts.next_latches.Given as goal

abbrev pub invariant-loop-latch : goal.invariant-loop-latch
invariant-loop-latch l = l.new ≡ map (λ x. literal_at l.plan l.frame x.next) (take l.latch-index l.latches)
