use Rattle.aig_base.proofs.levels.GreatestLemmas.{contains_more, bounded_more}
use Rattle.aig_base.proofs.level.greatest.greatest_of.Goals as goal

pub loop-number-preserved : goal.loop-number-preserved
loop-number-preserved c =
    let xs = c.args.numbers.now in
    record {
      reached = contains_more xs c.loop-number.number-index c.loop-number.greatest _ c.loop-number-test.true
          c.max-greatest.ensures c.loop-number.invariant.reached;
      bound = bounded_more xs c.loop-number.number-index c.loop-number.greatest _ c.loop-number-test.true
          c.max-greatest.ensures c.loop-number.invariant.bound;
    }
