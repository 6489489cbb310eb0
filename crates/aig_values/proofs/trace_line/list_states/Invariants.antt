use Rattle.std.proofs.Common.{◌≡◌, take, map}
use Rattle.aig_parts.specs.declared.latch.Latch.{Latch}
use Rattle.aig_values.proofs.trace_line.list_states.Given as goal

abbrev pub invariant-loop-place : goal.invariant-loop-place
invariant-loop-place l = take l.place l.literals ≡ map (λ (x : Latch). x.lit) (take l.place l.latches)
