use Rattle.aig_sat.proofs.checking.ListingLemmas.{finds_next}
use Rattle.aig_sat.proofs.checker.clauses.Clauses.scan.Goals as goal

pub loop-read-preserved : goal.loop-read-preserved
loop-read-preserved c =
    finds_next _ _ c.loop-read.read _ _ _ c.find_at.ensures.kept c.loop-read.invariant c.in_ok-find_at.ensures.found
