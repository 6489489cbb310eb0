use Rattle.std.proofs.Common.{◌≡◌, ◌≢◌, ◌≤◌, ◌<◌, ℕ, drop, get_or, length}
use Rattle.aig_names.specs.Names.{cut_at}
use Rattle.aig_names.specs.Paths.{has_empty}
use Rattle.aig_names.proofs.paths.has_empty_piece.Given as goal

abbrev pub invariant-loop-place : goal.invariant-loop-place
invariant-loop-place l = record {
  cut : has_empty (cut_at 46 (drop l.start l.name)) ≡ has_empty (cut_at 46 l.name);
  order : l.start ≤ l.place;
  within : l.place ≤ length l.name;
  none : (k : ℕ) → l.start ≤ k → k < l.place → get_or l.name k 0 ≢ 46;
}
