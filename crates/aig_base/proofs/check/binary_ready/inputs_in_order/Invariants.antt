use Rattle.std.proofs.Common.{◌≡◌, take}
use Rattle.aig_base.specs.Renumbered.{evens_from}
use Rattle.aig_base.proofs.check.binary_ready.inputs_in_order.Given as goal

abbrev pub invariant-loop-place : goal.invariant-loop-place
invariant-loop-place l = take l.place l.inputs ≡ evens_from l.first l.place
