use Rattle.std.proofs.Common.{◌≡◌, take, map}
use Rattle.aig_base.specs.Renumbered.{evens_from}
use Rattle.aig_base.proofs.check.binary_ready.left_sides_in_order.Given as goal

abbrev pub invariant-loop-place : goal.invariant-loop-place
invariant-loop-place l = take l.place (map (λ g. g.lhs) l.gates) ≡ evens_from l.first l.place
