use Rattle.std.proofs.Common.{sym, subst, arith}
use Rattle.aig_reduce.specs.state.Needed.{Follows}
use Rattle.aig_reduce.proofs.spread.Spread.reaches_needed.Goals as goal

pub loop-place-init : goal.loop-place-init
loop-place-init g c = record {
  following = λ property m i h v listed.
      subst (Follows c.args.bench.now.pair property c.args.frame m i) (sym (c.begin.ensures v listed)) h;
}

pub list-requires : goal.list-requires
list-requires g c = omega (arith, c.in-Some.ensures, c.requires.readers)

pub loop-place-preserved : goal.loop-place-preserved
loop-place-preserved g c = record {
  following = λ property m i h. c.follow_all.ensures.following property m i (c.loop-place.invariant.following property m i h);
}

pub returns-then-follow_all : goal.returns-then-follow_all
returns-then-follow_all g c = λ yes.
    let (v, listed, (w, n, at)) = c.follow_all.ensures.needed c.if-follow_all.true in (
      v,
      w,
      n,
      at,
      λ property m i h.
          c.follow_all.ensures.following property m i (c.loop-place.invariant.following property m i h) v listed,
    )
