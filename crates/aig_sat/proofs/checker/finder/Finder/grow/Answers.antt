use Rattle.aig_sat.proofs.checker.finder.Finder.grow.Goals as goal

-- src/finder.rt:88:9
pub loop-first-preserved : goal.loop-first-preserved
loop-first-preserved c = λ v m. c.link_chain.ensures v (c.loop-first.invariant v m)
