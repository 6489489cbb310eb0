use Rattle.std.proofs.Common.{◌≡◌, take}
use Rattle.aig_sim.proofs.simulation.machine.codes_of.Given as goal

abbrev pub invariant-loop-value : goal.invariant-loop-value
invariant-loop-value l = l.codes.items ≡ take l.value-index l.values
