use Rattle.std.proofs.Common.{◌≡◌, take}
use Rattle.aig_base.specs.Value.{start_of}
use Rattle.aig_shell.proofs.session.run_kept.starts_at.Given as goal

abbrev pub invariant-loop-place : goal.invariant-loop-place
invariant-loop-place l = take l.place (start_of l.circuit) ≡ take l.place l.start
