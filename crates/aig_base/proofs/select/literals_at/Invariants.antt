use Rattle.std.proofs.Common.{◌≡◌, get_or, map, take}
use Rattle.aig_base.proofs.select.literals_at.Given as goal

abbrev pub invariant-loop-position : goal.invariant-loop-position
invariant-loop-position l = l.chosen ≡ map (λ p. get_or l.literals p 0) (take l.position-index l.positions)
