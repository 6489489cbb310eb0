use Rattle.std.proofs.Common.{◌≡◌, take}
use Rattle.aig_shell.proofs.session.run_kept.are_same.Given as goal

abbrev pub invariant-loop-frame : goal.invariant-loop-frame
invariant-loop-frame l = take l.frame l.one.rows ≡ take l.frame l.other.rows
