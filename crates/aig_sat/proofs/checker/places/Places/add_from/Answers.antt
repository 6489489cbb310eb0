use Rattle.std.proofs.Common.{arith}
use Rattle.aig_sat.proofs.checking.ListingLemmas.{lists_kept, lists_more}
use Rattle.aig_sat.proofs.checker.places.Places.add_from.Goals as goal

pub loop-place-preserved : goal.loop-place-preserved
loop-place-preserved c =
    let before = c.loop-place.invariant in
    record {
      above = omega (arith, before.above);
      lists = lists_more _ _ _ _ _ _ c.add_clause.ensures.kept before.lists c.in_ok-add_clause.ensures.added;
    }

pub returns-in_err-add_clause-clause-kept : goal.returns-in_err-add_clause-clause-kept
returns-in_err-add_clause-clause-kept c =
    lists_kept _ _ _ _ _ _ _ c.loop-place.invariant.above c.add_clause.ensures.kept c.loop-place.invariant.lists

pub returns-clause-kept : goal.returns-clause-kept
returns-clause-kept c = lists_kept _ _ _ _ _ _ _ c.loop-place.invariant.above (λ l p h. h) c.loop-place.invariant.lists
