use Rattle.std.proofs.Common.{◌++◌, ◌∷◌, [], length}
use Rattle.aig_values.proofs.PropertyLines.{property_line_is, property_trace_more}
use Rattle.aig_sim.proofs.simulation.recorder.PropertyRecorderRecorder.record.Goals as goal

pub returns-clause-text : goal.returns-clause-text
returns-clause-text g c start rows row text reported _ holds _ =
    let raw = c.args.machine.now.circuit in
    property_trace_more raw start rows row text _ reported
    (property_line_is raw start (rows ++ row ∷ []) (length rows) c.args.machine.now.cells c.circuit.ensures.is_circuit.sound holds)
