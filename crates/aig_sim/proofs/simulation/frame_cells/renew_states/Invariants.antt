use Rattle.std.proofs.Common.{◌≡◌, take, map}
use Rattle.aig_parts.specs.declared.latch.Latch.{Latch}
use Rattle.aig_values.specs.Cells.{literal_value}
use Rattle.aig_sim.proofs.simulation.frame_cells.renew_states.Given as goal

abbrev pub invariant-loop-position : goal.invariant-loop-position
invariant-loop-position l = take l.position l.states
    ≡ map (λ (x : Latch). literal_value l.cells x.next) (take l.position l.circuit.latches)
