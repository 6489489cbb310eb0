use Rattle.std.proofs.Common.{take}
use Rattle.std.specs.List.{flat_map}
use Rattle.aig_base.specs.state.LeastFaulty.{IsLeastAmong, IsKnownLiteral}
use Rattle.aig_parts.specs.Literal.{variable}
use Rattle.aig_base.proofs.check.least_faulty.least_unknown_in_lists.Given as goal

abbrev pub invariant-loop-list : goal.invariant-loop-list
invariant-loop-list l = IsLeastAmong (IsKnownLiteral l.table) variable (flat_map (λ p. p) (take l.list-index l.lists)) l.least
