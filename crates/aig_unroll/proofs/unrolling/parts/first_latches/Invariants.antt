use Rattle.std.proofs.Common.{◌≡◌, ◌+◌, map, take}
use Rattle.std.specs.List.{range_with_len}
use Rattle.aig_unroll.specs.FrameLiteral.{uninitialised}
use Rattle.aig_unroll.specs.state.FrameTable.{first_at}
use Rattle.aig_unroll.proofs.unrolling.parts.first_latches.Given as goal

abbrev pub invariant-loop-latch : goal.invariant-loop-latch
invariant-loop-latch l = record {
  variable : l.variable ≡ l.offset + uninitialised (take l.latch-index l.latches);
  new : l.new ≡ map (first_at l.latches l.offset) (range_with_len 0 l.latch-index);
}
