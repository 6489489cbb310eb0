use Rattle.std.proofs.Common.{◌≢◌, ◌≤◌, ℕ, ◌<◌, length, get_or}
use Rattle.aig_names.proofs.vectors.after_bracket.Given as goal

abbrev pub invariant-loop-place : goal.invariant-loop-place
invariant-loop-place l = record {
  within : l.place ≤ length l.name;
  none : (k : ℕ) → l.place ≤ k → k < length l.name → get_or l.name k 0 ≢ 91;
}

abbrev pub decreases-loop-place : goal.decreases-loop-place
decreases-loop-place l = l.place
