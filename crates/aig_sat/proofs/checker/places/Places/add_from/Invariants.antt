use Rattle.std.proofs.Common.{◌≤◌}
use Rattle.aig_sat.specs.checker.Listing.{ListsAll}
use Rattle.aig_sat.proofs.checker.places.Places.add_from.Given as goal

abbrev pub invariant-loop-place : goal.invariant-loop-place
invariant-loop-place l = record {
  above : l.from ≤ l.place;
  lists : ListsAll l.self.heads.items l.self.links.items l.words l.place;
}
