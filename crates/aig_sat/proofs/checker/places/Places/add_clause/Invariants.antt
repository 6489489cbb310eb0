use Rattle.std.proofs.Common.{ℕ, ◌<◌}
use Rattle.aig_sat.specs.checker.Listing.{Lists}
use Rattle.aig_sat.specs.checker.Words.{literal_at}
use Rattle.aig_sat.proofs.checker.places.Places.add_clause.Given as goal

abbrev pub invariant-loop-index : goal.invariant-loop-index
invariant-loop-index l = record {
  kept : (m p : ℕ) → Lists l.initial.self.heads.items l.initial.self.links.items m p
      → Lists l.self.heads.items l.self.links.items m p;
  added : (k : ℕ) → k < l.index
      → Lists l.self.heads.items l.self.links.items (literal_at l.words l.place k) l.place;
}
