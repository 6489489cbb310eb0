use Rattle.aig_sat.proofs.checker.finder.Finder.add.Goals as goal

pub returns : goal.returns
returns c = λ v m. c.link.ensures v (c.in_ok-grow.ensures v m)
