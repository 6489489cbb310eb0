use Rattle.std.proofs.Common.{take}
use Rattle.aig_base.specs.state.LeastFaulty.{IsLeastAmong, latch_variable}
use Rattle.aig_base.specs.Sound.{IsReset}
use Rattle.aig_base.proofs.check.least_faulty.least_bad_reset.Given as goal

abbrev pub invariant-loop-latch : goal.invariant-loop-latch
invariant-loop-latch l = IsLeastAmong IsReset latch_variable (take l.latch-index l.latches) l.least
