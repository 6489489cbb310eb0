use Rattle.std.proofs.Common.{ℕ, ◌<◌}
use Rattle.aig_sim.specs.state.Checking.{ReadsNotOne}
use Rattle.aig_sim.proofs.witness.reached.first_bad.Given as goal

abbrev pub invariant-loop-position : goal.invariant-loop-position
invariant-loop-position l = (q : ℕ) → q < l.position → ReadsNotOne l.machine.cells l.machine.circuit.bad q
