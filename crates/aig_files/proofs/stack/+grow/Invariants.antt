use Rattle.aig_files.proofs.stack.+grow.Given as goal

abbrev pub decreases-grow : goal.decreases-grow
decreases-grow g l = l.frames
