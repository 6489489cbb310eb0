use Rattle.std.proofs.Common.{◌≡◌, take, map}
use Rattle.aig_parts.specs.declared.latch.Latch.{Latch}
use Rattle.aig_base.specs.Value.{reset_value}
use Rattle.aig_sim.proofs.simulation.machine.first_states.Given as goal

abbrev pub invariant-loop-latch : goal.invariant-loop-latch
invariant-loop-latch l = l.states.items
    ≡ map (λ (x : Latch). reset_value x.reset) (take l.latch-index l.circuit.latches)
