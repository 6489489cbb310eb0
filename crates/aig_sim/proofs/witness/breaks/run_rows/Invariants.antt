use Rattle.std.proofs.Common.{◌≡◌}
use Rattle.aig_sim.specs.Breaks.{as_witness}
use Rattle.aig_sim.specs.state.Checking.{HasRun}
use Rattle.aig_sim.proofs.BreakLemmas.{rest_of}
use Rattle.aig_sim.proofs.witness.breaks.run_rows.Given as goal

abbrev pub invariant-loop-frame : goal.invariant-loop-frame
invariant-loop-frame l = record {
  circuit : l.machine.circuit ≡ l.initial.machine.circuit;
  run : HasRun l.initial.machine.circuit (as_witness l.initial.machine.states l.rows.rows) l.frame
      (rest_of l.rows.rows l.frame) l.machine.cells l.machine.states;
}
