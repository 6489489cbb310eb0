use Rattle.std.proofs.Common.{ℕ, ◌<◌, get_or}
use Rattle.aig_parts.specs.declared.gate.Gate.{Gate}
use Rattle.aig_base.specs.state.TriedLevels.{IsStep}
use Rattle.aig_base.proofs.check.tried_levels.are_steps.Given as goal

abbrev pub invariant-loop-gate : goal.invariant-loop-gate
invariant-loop-gate l = (k : ℕ) (d : Gate) → k < l.gate-index → IsStep l.levels (get_or l.gates k d)
