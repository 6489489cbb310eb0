use Rattle.std.proofs.Common.{Bool, Global, Vec, ap, arith, inl, inr}
use Rattle.aig_sat.proofs.checking.ForgetLemmas.{forgotten_more}
use Rattle.aig_sat.proofs.checker.known.forget.Goals as goal
use Rattle.aig_sat.proofs.checker.known.forget.Goals.{then-literal-len, else-literal-len}

pub loop-literal-preserved : goal.loop-literal-preserved
loop-literal-preserved c =
    forgotten_more c.args.truths.now.items c.loop-literal.truths.items c.if-literal-len.truths.items c.args.list.now
    c.loop-literal.literal-index c.loop-literal.invariant
    (elim c.if-literal-len.branch [
      | then-literal-len w ↦ inl (
        omega (arith, w.if-literal-len.true, c.len.ensures, c.loop-literal.truths.ok.0),
        ap (λ (t : Vec Bool Global). t.items) w.truths-is,
      )
      | else-literal-len w ↦ inr (
        omega (arith, w.if-literal-len.false, c.len.ensures, c.loop-literal.truths.ok.0),
        ap (λ (t : Vec Bool Global). t.items) w.truths-is,
      )
    ])
