use Rattle.aig_shell.specs.Standing.{HoldBefore}
use Rattle.aig_shell.proofs.session.Session.broken.Given as goal

abbrev pub invariant-loop-frame : goal.invariant-loop-frame
invariant-loop-frame l = HoldBefore l.self.run.bench.pair l.frame
