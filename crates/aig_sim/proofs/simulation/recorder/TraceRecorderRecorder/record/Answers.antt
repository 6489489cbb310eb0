use Rattle.std.proofs.Common.{◌++◌, ◌∷◌, [], length}
use Rattle.aig_values.proofs.TraceLemmas.{trace_more, line_is}
use Rattle.aig_sim.proofs.simulation.recorder.TraceRecorderRecorder.record.Goals as goal

pub returns-clause-text : goal.returns-clause-text
returns-clause-text g c start rows row text reported _ holds _ =
    let raw = c.args.machine.now.circuit in
    trace_more raw start rows row text _ reported
    (line_is raw start (rows ++ row ∷ []) (length rows) c.args.machine.now.cells c.circuit.ensures.is_circuit.sound holds)
