use Rattle.std.proofs.Common.{◌≡◌}
use Rattle.aig_sim.specs.state.Reaching.{HasSearched}
use Rattle.aig_sim.proofs.witness.reached.run_to_bad.Given as goal

abbrev pub invariant-loop-frame : goal.invariant-loop-frame
invariant-loop-frame l = record {
  circuit : l.machine.circuit ≡ l.initial.machine.circuit;
  searched : HasSearched l.initial.machine.circuit l.initial.machine.states l.rows.rows l.asked l.frame l.machine.states;
}
