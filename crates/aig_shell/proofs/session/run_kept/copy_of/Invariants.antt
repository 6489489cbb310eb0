use Rattle.std.proofs.Common.{◌≡◌, take}
use Rattle.aig_shell.proofs.session.run_kept.copy_of.Given as goal

abbrev pub invariant-loop-frame : goal.invariant-loop-frame
invariant-loop-frame l = l.copy ≡ record { width = l.rows.width; rows = take l.frame l.rows.rows }
