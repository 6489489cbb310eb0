use Rattle.std.proofs.Common.{[], ◌∷◌, take}
use Rattle.std.specs.List.{flat_map}
use Rattle.aig_base.specs.state.LeastFaulty.{IsLeastAmong, IsKnownLiteral}
use Rattle.aig_parts.specs.Literal.{variable}
use Rattle.aig_base.proofs.check.least_faulty.least_unknown_side.Given as goal

abbrev pub invariant-loop-gate : goal.invariant-loop-gate
invariant-loop-gate l = IsLeastAmong (IsKnownLiteral l.table) variable (flat_map (λ g. g.rhs0 ∷ g.rhs1 ∷ [])
    (take l.gate-index l.gates)) l.least
