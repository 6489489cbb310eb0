use Rattle.std.proofs.Common.{◌≡◌, List, length, drop}
use Rattle.aig_parts.specs.declared.ternary.Tern.{Tern}
use Rattle.aig_sim.specs.state.Replaying.{BeginsRun, NoneReported, HasReplayed}
use Rattle.aig_values.specs.InputRows.{HaveWidth}
use Rattle.aig_sim.specs.WitnessText.{Witness, witness_rows_text}
use Rattle.aig_sim.proofs.witness.WitnessRun.write_frames.Given as goal

abbrev pub invariant-loop-frame : goal.invariant-loop-frame
invariant-loop-frame g l = record {
  circuit : l.self.machine.circuit ≡ l.initial.self.machine.circuit;
  row : length l.self.row.items ≡ length l.initial.self.machine.circuit.inputs;
  fits : g.T.Recorder.fits l.recorder l.initial.self.machine.circuit;
  rows : (given : List (List Tern)) × (length given ≡ l.frames) × HaveWidth (length l.initial.self.machine.circuit.inputs) given
      × (l.rest ≡ witness_rows_text (drop l.frame given));
  so_far : (w : Witness)
      → BeginsRun l.initial.self.machine.circuit w l.initial.self.machine.states l.rows l.frames
      → NoneReported g.T.Recorder.is_text g.T.Recorder.has_recorded l.initial.self.machine.circuit w l.initial.recorder
      → HasReplayed g.T.Recorder.is_text g.T.Recorder.has_recorded l.initial.self.machine.circuit w l.frame l.rest
      l.self.machine.states l.self.machine.cells l.recorder (g.W.Write.written l.initial.out) (g.W.Write.failures l.initial.out)
      (g.W.Write.written l.out) (g.W.Write.failures l.out);
}
