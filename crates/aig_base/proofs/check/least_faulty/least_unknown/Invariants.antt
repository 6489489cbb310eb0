use Rattle.std.proofs.Common.{take}
use Rattle.aig_base.specs.state.LeastFaulty.{IsLeastAmong, IsKnownLiteral}
use Rattle.aig_parts.specs.Literal.{variable}
use Rattle.aig_base.proofs.check.least_faulty.least_unknown.Given as goal

abbrev pub invariant-loop-literal : goal.invariant-loop-literal
invariant-loop-literal l = IsLeastAmong (IsKnownLiteral l.table) variable (take l.literal-index l.literals) l.least
