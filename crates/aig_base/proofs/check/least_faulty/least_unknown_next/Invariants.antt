use Rattle.std.proofs.Common.{map, take}
use Rattle.aig_base.specs.state.LeastFaulty.{IsLeastAmong, IsKnownLiteral}
use Rattle.aig_parts.specs.Literal.{variable}
use Rattle.aig_base.proofs.check.least_faulty.least_unknown_next.Given as goal

abbrev pub invariant-loop-latch : goal.invariant-loop-latch
invariant-loop-latch l = IsLeastAmong (IsKnownLiteral l.table) variable (map (λ x. x.next)
    (take l.latch-index l.latches)) l.least
