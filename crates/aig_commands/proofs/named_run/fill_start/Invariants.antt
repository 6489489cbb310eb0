use Rattle.std.proofs.Common.{◌≡◌, ◌++◌, drop}
use Rattle.aig_refute.specs.UnrolledWitness.{filled}
use Rattle.aig_commands.proofs.named_run.fill_start.Given as goal

abbrev pub invariant-loop-latch : goal.invariant-loop-latch
invariant-loop-latch l = l.start.items ++ filled (drop l.latch-index l.latches) l.rest ≡ filled l.latches l.values
