use Rattle.std.proofs.Common.{ℕ}
use Rattle.aig_sat.specs.checker.Listing.{Lists}
use Rattle.aig_sat.proofs.checking.ListingLemmas.{IsFoundOrLeft}
use Rattle.aig_sat.proofs.checker.places.Places.find.Given as goal

abbrev pub invariant-loop : goal.invariant-loop
invariant-loop l =
    (p : ℕ) → Lists l.self.heads.items l.self.links.items l.literal p
    → IsFoundOrLeft l.self.links.items l.found.items l.number p
