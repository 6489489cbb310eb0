use Rattle.std.proofs.Common.{◌≡◌, ℕ, ◌-◌, ◌^◌, min, List, [], ◌∷◌, ◌++◌, length, map, sym, ap, ◌∙◌, refl, subst, arith}
use Rattle.std.proofs.lemmas.List.{take_all, with_items_is}
use Rattle.aig_parts.specs.declared.ternary.Tern.{Tern}
use Rattle.aig_parts.specs.declared.raw.Raw.{Raw}
use Rattle.aig_values.specs.Characters.{character}
use Rattle.aig_sim.specs.state.Checking.{BeginsWithRow}
use Rattle.aig_values.specs.state.Frame.{HoldsAll, AreStates}
use Rattle.aig_sim.specs.state.Machine.{Steps}
use Rattle.aig_sim.proofs.ReplayLemmas.{not_ok, replay_begins, replay_ends, replay_more, replay_stops}
use Rattle.aig_sim.proofs.VerdictLemmas.{begins_with_row, row_was_read}
use Rattle.aig_sim.proofs.witness.WitnessRun.write_frames.Goals as goal

pub loop-frame-init : goal.loop-frame-init
loop-frame-init g c =
    let (w, h) = c.requires.ready in
    record {
      circuit = refl;
      row = c.requires.row;
      fits = c.requires.fits;
      rows = (w.rows, sym h.frames_are, h.rows_are.widths, h.rows_are.text_is);
      so_far = λ v ready none. replay_begins c.args.self.now.machine.cells (g.W.Write.written c.args.out.now) (g.W.Write.failures c.args.out.now) ready none;
    }

pub read_values-rest-requires : goal.read_values-rest-requires
read_values-rest-requires g c =
    let i = c.loop-frame.invariant in
    let (given, len, widths, is) = i.rows in
    subst (λ (n : ℕ). BeginsWithRow n c.loop-frame.rest.now) (sym (ap length c.deref_mut.ensures.value ∙ i.row))
    (begins_with_row (length c.args.self.now.machine.circuit.inputs) c.loop-frame.rest.now given c.loop-frame.frame widths is
    (omega (arith, len, c.loop-frame-test.true)))

pub step-requires : goal.step-requires
step-requires g c =
    let i = c.loop-frame.invariant in
    let new = c.read_values-rest.new.values in
    let same = with_items_is c.loop-frame.self.row new (omega (arith, c.read_values-rest.auto.values, c.deref_mut.ensures.len)) in
    ap length (c.deref.ensures.value ∙ same) ∙ c.read_values-rest.auto.values ∙ ap length c.deref_mut.ensures.value ∙ i.row
    ∙ ap (λ (r : Raw). length r.inputs) (sym i.circuit)

pub returns-in_err-record : goal.returns-in_err-record
returns-in_err-record g c = λ w ready none.
    let i = c.loop-frame.invariant in
    let circuit : c.step.new.self.circuit ≡ c.args.self.now.machine.circuit = c.step.ensures.circuit ∙ i.circuit in
    let new = c.read_values-rest.new.values in
    let same = with_items_is c.loop-frame.self.row new (omega (arith, c.read_values-rest.auto.values, c.deref_mut.ensures.len)) in
    let row = c.deref.result.now in
    let rest = c.read_values-rest.result.now in
    let read = subst (λ (r : List Tern). c.loop-frame.rest.now ≡ map character r ++ (10 ∷ rest))
    (sym (c.deref.ensures.value ∙ same)) c.read_values-rest.ensures in
    let e = c.in_err-record.ensures in
    record {
      text =
          replay_stops (i.so_far w ready none) (omega (arith, ready.frames_are, c.loop-frame-test.true))
          rest row c.step.new.self.cells c.step.new.self.states read
          (λ start rows are. subst (λ (r : Raw). Steps r start rows row c.step.new.self.cells c.step.new.self.states) i.circuit
          (c.step.ensures.step start rows
          (subst (λ (r : Raw). AreStates r start rows (length rows) c.loop-frame.self.machine.states) (sym i.circuit) are)))
          _
          (subst (λ (r : Raw). (start : List Tern) (rows : List (List Tern)) (row : List Tern) (text : List ℕ)
          → g.T.Recorder.is_text r start rows text → g.T.Recorder.has_recorded c.loop-frame.recorder r start rows
          → HoldsAll r start (rows ++ row ∷ []) (length rows) c.step.new.self.cells
          → c.loop-frame.frame ≡ min (length rows) (2 ^ 64 - 1)
          → g.T.Recorder.is_text r start (rows ++ row ∷ []) (text ++ g.T.Recorder.frame_text c.loop-frame.recorder
          c.step.new.self.circuit c.loop-frame.frame c.step.new.self.cells)) circuit e.text)
          (omega (arith, c.loop-frame-test.true))
          refl refl refl refl e.written c.from_residual.ensures.0;
      circuit = circuit;
      run = not_ok _ c.from_residual.result c.from_residual.ensures.0;
    }

pub loop-frame-preserved : goal.loop-frame-preserved
loop-frame-preserved g c =
    let i = c.loop-frame.invariant in
    let t = c.loop-frame.frame in
    let lt = c.loop-frame-test.true in
    let (given, len, widths, is) = i.rows in
    let raw = c.args.self.now.machine.circuit in
    let circuit : c.step.new.self.circuit ≡ raw = c.step.ensures.circuit ∙ i.circuit in
    let new = c.read_values-rest.new.values in
    let same = with_items_is c.loop-frame.self.row new (omega (arith, c.read_values-rest.auto.values, c.deref_mut.ensures.len)) in
    let row = c.deref.result.now in
    let rest = c.read_values-rest.result.now in
    let read = subst (λ (r : List Tern). c.loop-frame.rest.now ≡ map character r ++ (10 ∷ rest))
    (sym (c.deref.ensures.value ∙ same)) c.read_values-rest.ensures in
    let e = c.in_ok-record.ensures in
    record {
      circuit = circuit;
      row = ap length same ∙ c.read_values-rest.auto.values ∙ ap length c.deref_mut.ensures.value ∙ i.row;
      fits = subst (λ (r : Raw). g.T.Recorder.fits c.record.new.self r) circuit e.can;
      rows = (given, len, widths, (row_was_read c.loop-frame.rest.now rest given t row is (omega (arith, len, lt)) read).1);
      so_far = λ w ready none.
          replay_more (i.so_far w ready none) (omega (arith, ready.frames_are, lt))
          rest row c.step.new.self.cells c.step.new.self.states read
          (λ start rows are. subst (λ (r : Raw). Steps r start rows row c.step.new.self.cells c.step.new.self.states) i.circuit
          (c.step.ensures.step start rows
          (subst (λ (r : Raw). AreStates r start rows (length rows) c.loop-frame.self.machine.states) (sym i.circuit) are)))
          _
          (subst (λ (r : Raw). (start : List Tern) (rows : List (List Tern)) (row : List Tern) (text : List ℕ)
          → g.T.Recorder.is_text r start rows text → g.T.Recorder.has_recorded c.loop-frame.recorder r start rows
          → HoldsAll r start (rows ++ row ∷ []) (length rows) c.step.new.self.cells → t ≡ min (length rows) (2 ^ 64 - 1)
          → g.T.Recorder.is_text r start (rows ++ row ∷ []) (text ++ g.T.Recorder.frame_text c.loop-frame.recorder
          c.step.new.self.circuit t c.step.new.self.cells)) circuit e.text)
          (omega (arith, lt))
          c.record.new.self (g.W.Write.written c.record.new.out) (g.W.Write.failures c.record.new.out)
          (subst (λ (r : Raw). (start : List Tern) (rows : List (List Tern)) (row : List Tern)
          → g.T.Recorder.has_recorded c.loop-frame.recorder r start rows
          → HoldsAll r start (rows ++ row ∷ []) (length rows) c.step.new.self.cells → t ≡ min (length rows) (2 ^ 64 - 1)
          → g.T.Recorder.has_recorded c.record.new.self r start (rows ++ row ∷ [])) circuit e.recorded)
          e.written.ok e.written.count;
    }

pub returns : goal.returns
returns g c w ready none =
    let h = c.loop-frame.invariant.so_far w ready none in
    let all : c.loop-frame.frame ≡ length w.rows = omega (arith, ready.frames_are, c.loop-frame-test.false, c.loop-frame.auto.frame-end) in
    record {
      text = replay_ends h all;
      circuit = c.loop-frame.invariant.circuit;
      run = record {
        recorded_are = subst (λ (rows : List (List Tern)). g.T.Recorder.has_recorded c.loop-frame.recorder
            c.args.self.now.machine.circuit w.start rows) (take_all c.loop-frame.frame w.rows (omega (arith, all))) h.recorded_are;
        cells_are = λ u e. h.cells_are u (omega (arith, e, all));
      };
    }
