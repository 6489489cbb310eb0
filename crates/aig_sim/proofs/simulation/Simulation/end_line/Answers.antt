use Rattle.std.proofs.Common.{ℕ, List, ◌∷◌, refl}
use Rattle.aig_bytes.proofs.Results.{known_err}
use Rattle.aig_sim.specs.declared.stimulus.fault.StimFault.{StimFault}
use Rattle.aig_sim.specs.declared.stimulus.fault.StimFault.TheVariants.{Io}
use Rattle.aig_sim.specs.state.Running.{SimulationStops}
use Rattle.aig_sim.proofs.SimulationLemmas.{line_stops, row_goes_on, row_stops}
use Rattle.aig_sim.proofs.simulation.Simulation.end_line.Goals as goal

pub returns-in_err-row-clause-err : goal.returns-in_err-row-clause-err
returns-in_err-row-clause-err g c =
    let s = c.args.self.now in
    let w = g.W.Write.written c.args.out.now in
    let f = g.W.Write.failures c.args.out.now in
    let e = c.in_err-row.ensures in
    let P : StimFault → Type 0 = λ fault. (more : List ℕ) → SimulationStops g.T.Recorder.is_text g.T.Recorder.has_recorded (10 ∷ more) s w w f f fault in
    known_err c.from_residual.result c.in_err-row.field-0.0 P c.from_residual.ensures.1
    (λ more. line_stops s c.saturating_add-number.result c.in_err-row.field-0.0 more w f c.requires.room.0
    c.saturating_add-number.ensures e.of_line e.fault)

pub returns-in_err-record-clause-err : goal.returns-in_err-record-clause-err
returns-in_err-record-clause-err g c =
    let s = c.args.self.now in
    let row = c.in_ok-row.ensures.row in
    let w = g.W.Write.written c.args.out.now in
    let f = g.W.Write.failures c.args.out.now in
    let w' = g.W.Write.written c.record.new.out in
    let f' = g.W.Write.failures c.record.new.out in
    let e = c.in_err-record.ensures in
    let machine' = c.step.new.self in
    let P : StimFault → Type 0 = λ fault. (more : List ℕ)
    → SimulationStops g.T.Recorder.is_text g.T.Recorder.has_recorded (10 ∷ more) s w w' f f' fault in
    known_err c.from_residual-in_err-record.result Io P c.from_residual-in_err-record.ensures.1
    (λ more. row_stops g.T.Recorder.is_text g.T.Recorder.has_recorded s machine' c.in_ok-row.row.now c.requires.room.0 row.0 row.1 row.2
    c.step.ensures.circuit c.step.ensures.is_circuit c.step.ensures.step _ e.text more w w' f f' e.written.err e.written.count)

pub returns-clause-ok : goal.returns-clause-ok
returns-clause-ok g c =
    let s = c.args.self.now in
    let row = c.in_ok-row.ensures.row in
    let w = g.W.Write.written c.args.out.now in
    let f = g.W.Write.failures c.args.out.now in
    let e = c.in_ok-record.ensures in
    let k = c.clear.ensures in
    let machine' = c.step.new.self in
    row_goes_on g.T.Recorder.is_text g.T.Recorder.has_recorded s machine' c.in_ok-row.row.now c.requires.room.0 row.0 row.1 row.2 c.step.ensures.circuit
    c.step.ensures.is_circuit c.step.ensures.step _ e.text
    (record {
      machine = machine';
      line = c.clear.new.self;
      recorder = c.record.new.self;
      frames = c.saturating_add-number.result;
    })
    w (g.W.Write.written c.record.new.out) f
    (g.W.Write.failures c.record.new.out) refl e.recorded k.empty.0 k.empty.1 c.saturating_add-number.ensures
    e.written.ok e.written.count
