use Rattle.std.proofs.Common.{ℕ, ◌<◌, ◌≤◌, Contains, get_or}
use Rattle.aig_base.proofs.level.greatest.greatest_of.Given as goal

abbrev pub invariant-loop-number : goal.invariant-loop-number
invariant-loop-number l = record {
  reached : Contains l.numbers l.greatest;
  bound : (k d : ℕ) → k < l.number-index → get_or l.numbers k d ≤ l.greatest;
}
