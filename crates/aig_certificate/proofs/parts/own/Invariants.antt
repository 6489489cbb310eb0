use Rattle.std.proofs.Common.{◌≡◌, take}
use Rattle.aig_certificate.specs.Strengthened.{own}
use Rattle.aig_certificate.proofs.parts.own.Given as goal

abbrev pub invariant-loop-place : goal.invariant-loop-place
invariant-loop-place g l = l.list ≡ own (take l.place l.meanings) (take l.place l.entries)
