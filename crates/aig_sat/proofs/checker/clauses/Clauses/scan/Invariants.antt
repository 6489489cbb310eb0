use Rattle.aig_sat.proofs.checking.ListingLemmas.{FindsFrom}
use Rattle.aig_sat.proofs.checker.clauses.Clauses.scan.Given as goal

abbrev pub invariant-loop-read : goal.invariant-loop-read
invariant-loop-read l = FindsFrom l.self.words.items l.end l.read l.literal l.found.items
