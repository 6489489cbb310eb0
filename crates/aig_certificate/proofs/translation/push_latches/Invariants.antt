use Rattle.std.proofs.Common.{◌≡◌, ◌++◌, map, take}
use Rattle.aig_certificate.proofs.translation.push_latches.Given as goal

abbrev pub invariant-loop-latch : goal.invariant-loop-latch
invariant-loop-latch l = l.literals ≡ l.initial.literals ++ map (λ x. x.lit) (take l.latch-index l.latches)
