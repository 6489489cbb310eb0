use Rattle.std.proofs.Common.{◌≡◌, ◌+◌, ◌*◌, ◌<◌, All, length, vec_len}
use Rattle.aig_base.specs.state.TriedLevels.{ReadsBelow}
use Rattle.aig_base.proofs.checks.TriedLevelLemmas.{unmet}
use Rattle.aig_base.proofs.check.tried_levels.find_pending.Given as goal

abbrev pub invariant-loop-top : goal.invariant-loop-top
invariant-loop-top l = record {
  size : length l.nodes ≡ length l.initial.nodes;
  nodes : All (ReadsBelow (length l.initial.nodes)) l.nodes;
  below : All (λ v. v < length l.initial.nodes) l.pending.items;
}

-- a variable that was not met may still wait, with what it reads; one that waits is to be taken
abbrev pub decreases-loop-top : goal.decreases-loop-top
decreases-loop-top l = 3 * unmet l.nodes + vec_len l.pending
