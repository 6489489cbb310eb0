use Rattle.std.proofs.Common.{ℕ, ◌<◌, ◌≤◌, get_or}
use Rattle.aig_parts.specs.Literal.{variable}
use Rattle.aig_sat.proofs.checker.clauses.above.Given as goal

abbrev pub invariant-loop-literal : goal.invariant-loop-literal
invariant-loop-literal l = record {
  more : l.named ≤ l.above;
  all : (k : ℕ) → k < l.literal-index → variable (get_or l.literals k 0) < l.above;
}
