use Rattle.std.proofs.Common.{◌≡◌, ◌++◌, map, take}
use Rattle.aig_certificate.proofs.translation.push_left_sides.Given as goal

abbrev pub invariant-loop-gate : goal.invariant-loop-gate
invariant-loop-gate l = l.literals ≡ l.initial.literals ++ map (λ g. g.lhs) (take l.gate-index l.gates)
