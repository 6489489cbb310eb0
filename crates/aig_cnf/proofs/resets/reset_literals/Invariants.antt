use Rattle.std.proofs.Common.{◌≡◌, take}
use Rattle.aig_cnf.specs.Formula.{reset_literals}
use Rattle.aig_cnf.proofs.resets.reset_literals.Given as goal

abbrev pub invariant-loop-place : goal.invariant-loop-place
invariant-loop-place l = l.found.items ≡ reset_literals l.first (take l.place l.latches)
