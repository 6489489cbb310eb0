use Rattle.aig_sat.proofs.checking.ListingLemmas.{added_more}
use Rattle.aig_sat.proofs.checker.places.Places.add_clause.Goals as goal

pub loop-index-preserved : goal.loop-index-preserved
loop-index-preserved c =
    let before = c.loop-index.invariant in
    record {
      kept = λ m p h. c.add.ensures.kept m p (before.kept m p h);
      added = added_more _ _ _ _ c.args.words.now c.args.place c.loop-index.index _ c.word_at-literal.ensures
          c.add.ensures.kept before.added c.in_ok-add.ensures.added;
    }

pub returns-in_err-add-clause-kept : goal.returns-in_err-add-clause-kept
returns-in_err-add-clause-kept c = λ m p h. c.add.ensures.kept m p (c.loop-index.invariant.kept m p h)
