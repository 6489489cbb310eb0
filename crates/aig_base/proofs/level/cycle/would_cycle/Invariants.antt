use Rattle.std.proofs.Common.{◌+◌, not, count_by, vec_len}
use Rattle.aig_base.proofs.checks.Walks.{IsSearch}
use Rattle.aig_base.proofs.level.cycle.would_cycle.Given as goal

abbrev pub invariant-loop-number : goal.invariant-loop-number
invariant-loop-number l = IsSearch l.circuit l.gate l.fn.r0 l.fn.r1 l.walk.pending.items l.walk.met.items

-- how many are not met, and how many are pending
abbrev pub decreases-loop-number : goal.decreases-loop-number
decreases-loop-number l = count_by not l.walk.met.items + vec_len l.walk.pending
