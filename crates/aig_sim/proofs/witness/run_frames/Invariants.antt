use Rattle.std.proofs.Common.{◌≡◌, List, length, drop}
use Rattle.aig_parts.specs.declared.ternary.Tern.{Tern}
use Rattle.aig_sim.specs.state.Checking.{HasRun}
use Rattle.aig_values.specs.InputRows.{HaveWidth}
use Rattle.aig_sim.specs.WitnessText.{Witness, witness_rows_text}
use Rattle.aig_sim.proofs.witness.run_frames.Given as goal

abbrev pub invariant-loop-frame : goal.invariant-loop-frame
invariant-loop-frame l = record {
  circuit : l.machine.circuit ≡ l.initial.machine.circuit;
  row : length l.row ≡ length l.initial.row;
  rows : (given : List (List Tern)) × (length given ≡ l.frames) × HaveWidth (length l.initial.row) given
      × (l.rest ≡ witness_rows_text (drop l.frame given));
  run : (w : Witness)
      → HasRun l.initial.machine.circuit w 0 l.rows l.initial.machine.cells l.initial.machine.states
      → length w.rows ≡ l.frames → HasRun l.initial.machine.circuit w l.frame l.rest l.machine.cells l.machine.states;
}
