use Rattle.std.proofs.Common.{◌≡◌, ◌≢◌, ◌≤◌, ◌<◌, ◌++◌, ℕ, drop, map, get_or, length}
use Rattle.aig_names.specs.Names.{cut_at}
use Rattle.aig_names.proofs.paths.pieces_of.Given as goal

abbrev pub invariant-loop-place : goal.invariant-loop-place
invariant-loop-place l = record {
  cut : map (λ piece. piece.now) l.pieces.items ++ cut_at 46 (drop l.start l.name) ≡ cut_at 46 l.name;
  order : l.start ≤ l.place;
  within : l.place ≤ length l.name;
  none : (k : ℕ) → l.start ≤ k → k < l.place → get_or l.name k 0 ≢ 46;
}
