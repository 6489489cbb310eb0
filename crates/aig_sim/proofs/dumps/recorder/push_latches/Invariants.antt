use Rattle.std.proofs.Common.{◌≡◌, ◌++◌, map, take}
use Rattle.aig_parts.specs.declared.latch.Latch.{Latch}
use Rattle.aig_sim.proofs.dumps.recorder.push_latches.Given as goal

abbrev pub invariant-loop-latch : goal.invariant-loop-latch
invariant-loop-latch l = l.literals.items ≡ l.initial.literals.items ++ map (λ (x : Latch). x.lit) (take l.latch-index l.latches)
