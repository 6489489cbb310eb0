use Rattle.std.proofs.Common.{◌≡◌, ◌==◌, false, All, take}
use Rattle.aig_certificate.proofs.mapping.cut.Given as goal

abbrev pub invariant-loop-place : goal.invariant-loop-place
invariant-loop-place l = All (λ b. (b == l.byte) ≡ false) (take l.place l.text)
