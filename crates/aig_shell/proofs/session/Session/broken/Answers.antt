use Rattle.std.proofs.Common.{length, sym, ap, ◌∙◌, subst, arith}
use Rattle.aig_bench.specs.BenchState.{BenchState}
use Rattle.aig_shell.specs.Standing.{HoldBefore, HoldBelow, IsBroken}
use Rattle.aig_shell.proofs.reached.Reaching.{hold_more}
use Rattle.aig_shell.proofs.session.Session.broken.Goals as goal

pub returns-in-Some : goal.returns-in-Some
returns-in-Some c =
    let p = c.args.self.now.run.bench.pair in
    let b = c.in-Some.broken in
    let size = c.frames-frame-end.ensures ∙ ap (λ (b : BenchState). length b.pair.rows) c.bench-bench.ensures in
    let (e, is, below) = c.in-Some.ensures.some in
    record {
      frame = omega (arith, c.loop-frame-test.true, size, e);
      broken = subst (λ t. IsBroken p t b.constraint b.value) (sym e) is;
      below = subst (λ t. HoldBelow p t b.constraint) (sym e) below;
      before = subst (HoldBefore p) (sym e) c.loop-frame.invariant;
    }

pub loop-frame-preserved : goal.loop-frame-preserved
loop-frame-preserved c =
    hold_more c.args.self.now.run.bench.pair c.loop-frame.frame c.loop-frame.invariant c.in_default.ensures.none

pub returns : goal.returns
returns c =
    let size = c.frames-frame-end.ensures ∙ ap (λ (b : BenchState). length b.pair.rows) c.bench-bench.ensures in
    λ u lt. c.loop-frame.invariant u (omega (arith, lt, size, c.loop-frame-test.false))
