use Rattle.std.proofs.Common.{ℕ, ◌<◌}
use Rattle.aig_sim.specs.Verdict.{StartsWrong}
use Rattle.aig_sim.proofs.witness.wrong_start.Given as goal

abbrev pub invariant-loop-position : goal.invariant-loop-position
invariant-loop-position l = (q : ℕ) → q < l.position → StartsWrong l.machine.circuit l.machine.states q → ⊥
