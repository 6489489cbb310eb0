use Rattle.std.proofs.Common.{◌≡◌, map, take}
use Rattle.aig_base.specs.RenumberingTable.{latch_by}
use Rattle.aig_base.proofs.renumbering.parts.new_latches.Given as goal

abbrev pub invariant-loop-latch : goal.invariant-loop-latch
invariant-loop-latch l = l.new ≡ map (latch_by l.table) (take l.latch-index l.latches)
