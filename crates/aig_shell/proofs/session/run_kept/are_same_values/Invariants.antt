use Rattle.std.proofs.Common.{◌≡◌, take}
use Rattle.aig_shell.proofs.session.run_kept.are_same_values.Given as goal

abbrev pub invariant-loop-place : goal.invariant-loop-place
invariant-loop-place l = take l.place l.one ≡ take l.place l.other
