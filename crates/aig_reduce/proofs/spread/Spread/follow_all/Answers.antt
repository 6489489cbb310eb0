use Rattle.aig_reduce.proofs.spread.Spread.follow_all.Goals as goal

pub loop-reader-init : goal.loop-reader-init
loop-reader-init g c = record { following = λ property m i all. all }

pub loop-reader-preserved : goal.loop-reader-preserved
loop-reader-preserved g c = record {
  following = λ property m i all. c.follow.ensures property m i (c.loop-reader.invariant.following property m i all);
}

pub returns-then-has_needed-clause-following : goal.returns-then-has_needed-clause-following
returns-then-has_needed-clause-following g c = λ property m i all.
    c.follow.ensures property m i (c.loop-reader.invariant.following property m i all)

pub returns-then-has_needed-clause-needed : goal.returns-then-has_needed-clause-needed
returns-then-has_needed-clause-needed g c = λ _.
    let (listed, needed) = c.has_needed.ensures c.if-has_needed.true in (_, listed, needed)

pub returns-clause-following : goal.returns-clause-following
returns-clause-following g c = c.loop-reader.invariant.following
