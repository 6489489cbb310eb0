-- A simulation, byte by byte and chunk by chunk.
use Rattle.std.proofs.Common.{◌≡◌, ◌≢◌, ℕ, ◌+◌, ◌-◌, ◌^◌, min, List, [], ◌∷◌, ◌++◌, length, All, inl, inr, refl, sym}
use Rattle.std.proofs.Common.{ap, ◌∙◌, subst, arith, append_assoc, Ok, Err}
use Rattle.std.specs.Prelude.{Option, Some, None, Result, IfOk, IfErr, OnOk, OnErr}
use Rattle.std.specs.List.{flat_map}
use Rattle.std.specs.Result.{IsErrAnd}
use Rattle.std.proofs.lemmas.List.{append-nil, length_push, length-map}
use Rattle.aig_bytes.proofs.Results.{known_err}
use Rattle.aig_parts.specs.declared.ternary.Tern.{Tern}
use Rattle.aig_parts.specs.declared.raw.Raw.{Raw}
use Rattle.aig_bytes.specs.Bytes.{after, before, IsAtEnd, IsBeginning}
use Rattle.aig_base.specs.Circuit.{IsCircuit}
use Rattle.aig_parts.specs.declared.latch.Latch.{Latch}
use Rattle.aig_base.specs.Value.{reset_value, start_of}
use Rattle.aig_bytes.proofs.WriteLemmas.{after-append, after-nil}
use Rattle.aig_sim.specs.declared.simulation.Simulation.{Simulation}
use Rattle.aig_sim.specs.declared.stimulus.row_parser.Shape.{Shape}
use Rattle.aig_sim.specs.declared.stimulus.row_parser.Shape.TheVariants.{Row}
use Rattle.aig_sim.specs.declared.stimulus.fault.StimFault.{StimFault}
use Rattle.aig_sim.specs.declared.stimulus.fault.StimFault.TheVariants as fault
use Rattle.aig_values.specs.state.Frame.{HoldsAll, AreStates}
use Rattle.aig_sim.specs.RowParser.{KeepsLine, HasRead, IsOfLine}
use Rattle.aig_sim.specs.state.Machine.{Machine, Steps}
use Rattle.aig_sim.specs.state.Running.{RunText, Recorded, SimulationStarts, Running, StopsBy, Stopped}
use Rattle.aig_sim.specs.state.Running.{SimulationGoesOn, SimulationStops, ReadSoFar, Streamed}
use Rattle.aig_sim.specs.Simulated.{Streams, Simulates}
use Rattle.aig_sim.specs.StimulusText.{row_line, line_number, EndsLine, HasFault, HasFaultyLine}
use Rattle.aig_values.specs.Trace.{IsTrace}
use Rattle.aig_sim.proofs.LineLemmas.{read_none, read_piece, read_line, read_fault, read_unfinished, read_end}
use Rattle.aig_values.proofs.TraceLemmas.{first_states}

-- ---- reads
pub before_nil : (w : Option (List ℕ)) → before [] w ≡ w
before_nil None = refl
before_nil (Some xs) = refl

pub before-before : (a b : List ℕ) (w : Option (List ℕ)) → before a (before b w) ≡ before (a ++ b) w
before-before a b None = refl
before-before a b (Some xs) = ap Some (sym (append_assoc a b xs))

nothing_read : (text : List ℕ) (left mid to : Option (List ℕ)) → left ≡ before text mid → mid ≡ before [] to → left
    ≡ before text to
nothing_read text left mid to h e = h ∙ ap (before text) (e ∙ before_nil to)

stops_by_line : (raw : Raw) (count : ℕ) (text : List ℕ) (rows : List (List Tern)) (trace : List ℕ) (failures : ℕ)
    (f : StimFault)
    → IsOfLine f → HasFaultyLine (length raw.inputs) text rows f → failures ≡ count
    → StopsBy raw count text rows trace trace failures f
stops_by_line raw count text rows trace failures (fault.Char n) k h e = (h, refl, e)
stops_by_line raw count text rows trace failures (fault.Length n) k h e = (h, refl, e)
stops_by_line raw count text rows trace failures fault.Unfinished k h e = absurd k
stops_by_line raw count text rows trace failures fault.Limit k h e = absurd k
stops_by_line raw count text rows trace failures fault.Memory k h e = absurd k
stops_by_line raw count text rows trace failures fault.Io k h e = absurd k

module _ {T : Type 0} {is_text : RunText} {recorded : Recorded T} where
  -- ---- steps
  pub running_none : (start : Option (List ℕ)) (count : ℕ) (s : Simulation T)
      → SimulationStarts is_text recorded s → Running is_text recorded s.machine.circuit start count [] s start count
  running_none start count s h =
      let raw = s.machine.circuit in
      record {
        rows = [];
        trace = [];
        circuit_is = refl;
        has_read = subst (λ (v : List Tern). HasRead (length raw.inputs) [] [] s.line.shape v) (sym h.values_are)
            (subst (λ (k : Shape). HasRead (length raw.inputs) [] [] k []) (sym h.shape_is) (read_none (length raw.inputs)));
        states_are = subst (λ (v : List Tern). AreStates raw (start_of raw) [] 0 v) (sym h.states_are)
            (first_states raw (start_of raw) (length-map raw.latches (λ (x : Latch). reset_value x.reset)));
        frames_are = omega (arith, h.frames_are);
        recorded_are = h.none_recorded;
        trace_is = h.no_text;
        wrote = sym (after-nil start);
        no_failure = refl;
      }

  pub piece_goes_on : (s s' : Simulation T) (piece : List ℕ) (written : Option (List ℕ)) (failures : ℕ)
      → s.line.width ≡ length s.machine.circuit.inputs → s'.frames ≡ s.frames → s'.machine ≡ s.machine → s'.recorder ≡ s.recorder
      → All (λ b. b ≢ 10) piece
      → ((line : List ℕ) → KeepsLine s.line.width line s.line.shape s.line.values
      → KeepsLine s.line.width (line ++ piece) s'.line.shape s'.line.values)
      → SimulationGoesOn is_text recorded piece s s' written written failures failures
  piece_goes_on s s' piece written failures width frames machine recorder ne step raw start count text r = record {
    rows = r.rows;
    trace = r.trace;
    circuit_is = ap (λ (m : Machine). m.circuit) machine ∙ r.circuit_is;
    has_read = read_piece s'.line.shape s'.line.values piece r.has_read ne
        (subst (λ (w : ℕ). (line : List ℕ) → KeepsLine w line s.line.shape s.line.values
        → KeepsLine w (line ++ piece) s'.line.shape s'.line.values)
        (width ∙ ap (λ (c : Raw). length c.inputs) r.circuit_is) step);
    states_are = subst (λ (m : Machine). AreStates raw (start_of raw) r.rows (length r.rows) m.states) (sym machine) r.states_are;
    frames_are = frames ∙ r.frames_are;
    recorded_are = subst (λ (k : T). recorded k raw (start_of raw) r.rows) (sym recorder) r.recorded_are;
    trace_is = r.trace_is;
    wrote = r.wrote;
    no_failure = r.no_failure;
  }

  pub goes_on_then : (a b : List ℕ) (s mid s' : Simulation T) (w x y : Option (List ℕ)) (f g h : ℕ)
      → SimulationGoesOn is_text recorded a s mid w x f g → SimulationGoesOn is_text recorded b mid s' x y g h → SimulationGoesOn is_text recorded (a ++ b) s s' w y f h
  goes_on_then a b s mid s' w x y f g h p q raw start count text r =
      subst (λ (t : List ℕ). Running is_text recorded raw start count t s' y h) (append_assoc text a b)
      (q raw start count (text ++ a) (p raw start count text r))

  pub stops_then : (a b : List ℕ) (s mid : Simulation T) (w x y : Option (List ℕ)) (f g h : ℕ) (e : StimFault)
      → SimulationGoesOn is_text recorded a s mid w x f g → SimulationStops is_text recorded b mid x y g h e → SimulationStops is_text recorded (a ++ b) s w y f h e
  stops_then a b s mid w x y f g h e p q raw start count text r =
      subst (λ (t : List ℕ). Stopped is_text raw start count t y h e) (append_assoc text a b)
      (q raw start count (text ++ a) (p raw start count text r))

module _ {T : Type 0} (is_text : RunText) (recorded : Recorded T) (s : Simulation T) (machine' : Machine) (row : List Tern)
    (width : s.line.width ≡ length s.machine.circuit.inputs)
    (shape : s.line.shape ≡ Row) (values : s.line.values ≡ row) (len : length row ≡ s.line.width)
    (circuit : machine'.circuit ≡ s.machine.circuit) (is_circuit : IsCircuit machine'.circuit)
    (step : (start : List Tern) (rows : List (List Tern))
    → AreStates s.machine.circuit start rows (length rows) s.machine.states
    → Steps s.machine.circuit start rows row machine'.cells machine'.states)
    (piece : List ℕ) (reported : (start : List Tern) (rows : List (List Tern)) (row : List Tern) (text : List ℕ)
    → is_text machine'.circuit start rows text → recorded s.recorder machine'.circuit start rows
    → HoldsAll machine'.circuit start (rows ++ row ∷ []) (length rows) machine'.cells
    → s.frames ≡ min (length rows) (2 ^ 64 - 1)
    → is_text machine'.circuit start (rows ++ row ∷ []) (text ++ piece)) where
  stepped : (raw : Raw) (rows : List (List Tern)) → s.machine.circuit ≡ raw
      → AreStates raw (start_of raw) rows (length rows) s.machine.states
      → Steps raw (start_of raw) rows row machine'.cells machine'.states
  stepped raw rows is are =
      subst (λ (c : Raw). Steps c (start_of raw) rows row machine'.cells machine'.states) is
      (step (start_of raw) rows
      (subst (λ (c : Raw). AreStates c (start_of raw) rows (length rows) s.machine.states) (sym is) are))

  -- the text with the piece of the row
  reported_more : (raw : Raw) (rows : List (List Tern)) (text : List ℕ) → s.machine.circuit ≡ raw
      → is_text raw (start_of raw) rows text → recorded s.recorder raw (start_of raw) rows
      → Steps raw (start_of raw) rows row machine'.cells machine'.states → s.frames ≡ min (length rows) (2 ^ 64 - 1)
      → is_text raw (start_of raw) (rows ++ row ∷ []) (text ++ piece)
  reported_more raw rows text is t r h n =
      subst (λ (c : Raw). is_text c (start_of raw) rows text → recorded s.recorder c (start_of raw) rows
      → HoldsAll c (start_of raw) (rows ++ row ∷ []) (length rows) machine'.cells
      → is_text c (start_of raw) (rows ++ row ∷ []) (text ++ piece))
      (circuit ∙ is) (λ t r h. reported (start_of raw) rows row text t r h n) t r h.cells_are

  row_read : (raw : Raw) (text : List ℕ) (rows : List (List Tern)) → s.machine.circuit ≡ raw
      → HasRead (length raw.inputs) text rows s.line.shape s.line.values
      → HasRead (length raw.inputs) (text ++ 10 ∷ []) (rows ++ row ∷ []) Row []
  row_read raw text rows is h =
      read_line (subst (λ (v : List Tern). HasRead (length raw.inputs) text rows Row v) values
      (subst (λ (k : Shape). HasRead (length raw.inputs) text rows k s.line.values) shape h))
      (len ∙ width ∙ ap (λ (c : Raw). length c.inputs) is)

  -- a row was simulated and its text written
  pub row_goes_on : (s' : Simulation T) (written written' : Option (List ℕ)) (failures failures' : ℕ)
      → s'.machine ≡ machine'
      → ((start : List Tern) (rows : List (List Tern)) (row : List Tern)
      → recorded s.recorder machine'.circuit start rows
      → HoldsAll machine'.circuit start (rows ++ row ∷ []) (length rows) machine'.cells
      → s.frames ≡ min (length rows) (2 ^ 64 - 1)
      → recorded s'.recorder machine'.circuit start (rows ++ row ∷ []))
      → s'.line.shape ≡ Row → s'.line.values ≡ [] → s'.frames ≡ min (s.frames + 1) (2 ^ 64 - 1)
      → written' ≡ after written piece → failures' ≡ failures + 0
      → SimulationGoesOn is_text recorded (10 ∷ []) s s' written written' failures failures'
  row_goes_on s' written written' failures failures' machine-is kept shape' values' frames wrote count-is raw start count
      text r =
      let done = stepped raw r.rows r.circuit_is r.states_are in
      record {
        rows = r.rows ++ row ∷ [];
        trace = r.trace ++ piece;
        circuit_is = ap (λ (m : Machine). m.circuit) machine-is ∙ circuit ∙ r.circuit_is;
        has_read = subst (λ (v : List Tern). HasRead (length raw.inputs) (text ++ 10 ∷ [])
            (r.rows ++ row ∷ []) s'.line.shape v) (sym values')
            (subst (λ (k : Shape). HasRead (length raw.inputs) (text ++ 10 ∷ []) (r.rows ++ row ∷ []) k []) (sym shape')
            (row_read raw text r.rows r.circuit_is r.has_read));
        states_are = subst (λ (n : ℕ). AreStates raw (start_of raw) (r.rows ++ row ∷ []) n s'.machine.states)
            (sym (length_push r.rows row))
            (subst (λ (m : Machine). AreStates raw (start_of raw) (r.rows ++ row ∷ []) (length r.rows + 1) m.states)
            (sym machine-is) done.states_are);
        frames_are = omega (arith, frames, r.frames_are, length_push r.rows row);
        recorded_are = subst (λ (c : Raw). recorded s.recorder c (start_of raw) r.rows
            → HoldsAll c (start_of raw) (r.rows ++ row ∷ []) (length r.rows) machine'.cells
            → recorded s'.recorder c (start_of raw) (r.rows ++ row ∷ []))
            (circuit ∙ r.circuit_is) (λ k h. kept (start_of raw) r.rows row k h r.frames_are) r.recorded_are done.cells_are;
        trace_is = reported_more raw r.rows r.trace r.circuit_is r.trace_is r.recorded_are done r.frames_are;
        wrote = wrote ∙ ap (λ (w : Option (List ℕ)). after w piece) r.wrote
            ∙ after-append start r.trace piece;
        no_failure = omega (arith, count-is, r.no_failure);
      }

  -- a row was simulated, and the write of its text failed
  pub row_stops : (more : List ℕ) (written written' : Option (List ℕ)) (failures failures' : ℕ)
      → (done : List ℕ) × IsBeginning done piece × (written' ≡ after written done) → failures' ≡ failures + 1
      → SimulationStops is_text recorded (10 ∷ more) s written written' failures failures' fault.Io
  row_stops more written written' failures failures' (done, begins, wrote) count-is raw start count text r =
      let done' = stepped raw r.rows r.circuit_is r.states_are in
      let read = row_read raw text r.rows r.circuit_is r.has_read in
      record {
        rows = r.rows ++ row ∷ [];
        trace = r.trace ++ piece;
        done = r.trace ++ done;
        trace_is = reported_more raw r.rows r.trace r.circuit_is r.trace_is r.recorded_are done' r.frames_are;
        wrote = wrote ∙ ap (λ (w : Option (List ℕ)). after w done) r.wrote ∙ after-append start r.trace done;
        why = (
          record {
            widths = read.widths;
            rest = read.line ++ more;
            text_is = sym (append_assoc text (10 ∷ []) more) ∙ ap (λ (t : List ℕ). t ++ more) read.text_is
                ∙ append_assoc (flat_map row_line (r.rows ++ row ∷ [])) read.line more;
          },
          (begins.0, ap (λ (t : List ℕ). r.trace ++ t) begins.1 ∙ sym (append_assoc r.trace done begins.0)),
          omega (arith, count-is, r.no_failure),
        );
      }

module _ {T : Type 0} {is_text : RunText} {recorded : Recorded T} where
  -- a faulty line
  pub line_stops : (s : Simulation T) (number : ℕ) (f : StimFault) (more : List ℕ) (written : Option (List ℕ))
      (failures : ℕ)
      → s.line.width ≡ length s.machine.circuit.inputs → number ≡ min (s.frames + 1) (2 ^ 64 - 1) → IsOfLine f
      → ((before : ℕ) (line rest : List ℕ) → number ≡ line_number before
      → KeepsLine s.line.width line s.line.shape s.line.values
      → EndsLine rest → HasFault s.line.width before line rest f)
      → SimulationStops is_text recorded (10 ∷ more) s written written failures failures f
  line_stops s number f more written failures width number-is kind is raw start count text r =
      let wide : s.line.width ≡ length raw.inputs = width ∙ ap (λ (c : Raw). length c.inputs) r.circuit_is in
      let e : number ≡ line_number (length r.rows) = omega (arith, number-is, r.frames_are) in
      let faulty = subst (λ (n : ℕ). HasFaultyLine n (text ++ (10 ∷ more)) r.rows f) wide
      (read_fault more (subst (λ (n : ℕ). HasRead n text r.rows s.line.shape s.line.values) (sym wide) r.has_read)
      (λ line rest. is (length r.rows) line rest e)) in
      record {
        rows = r.rows;
        trace = r.trace;
        done = r.trace;
        trace_is = r.trace_is;
        wrote = r.wrote;
        why = stops_by_line raw count (text ++ (10 ∷ more)) r.rows r.trace failures f kind faulty r.no_failure;
      }

  pub read_nothing : (raw : Raw) (left : Option (List ℕ)) (reads : ℕ) (start : Option (List ℕ)) (count : ℕ)
      (s : Simulation T)
      → Running is_text recorded raw start count [] s start count → ReadSoFar is_text recorded raw left left reads reads start count s start count
  read_nothing raw left reads start count s r =
      record { text = []; read = sym (before_nil left); no_failure = refl; running = r }

  module _ {raw : Raw} {left mid : Option (List ℕ)} {reads reads' : ℕ} {start : Option (List ℕ)} {count : ℕ}
      {s : Simulation T}
      {written : Option (List ℕ)} {failures : ℕ}
      (h : ReadSoFar is_text recorded raw left mid reads reads' start count s written failures) where
    -- what was written was passed on
    pub so_far_flushed : (written' : Option (List ℕ)) (failures' : ℕ) → written' ≡ written → failures' ≡ failures + 0
        → ReadSoFar is_text recorded raw left mid reads reads' start count s written' failures'
    so_far_flushed written' failures' is n =
        let r = h.running in
        record {
          text = h.text;
          read = h.read;
          no_failure = h.no_failure;
          running = record {
            rows = r.rows;
            trace = r.trace;
            circuit_is = r.circuit_is;
            has_read = r.has_read;
            states_are = r.states_are;
            frames_are = r.frames_are;
            recorded_are = r.recorded_are;
            trace_is = r.trace_is;
            wrote = is ∙ r.wrote;
            no_failure = omega (arith, r.no_failure, n);
          };
        }

    -- a flush failed
    pub simulates_flush_failed : (written' : Option (List ℕ)) (failures' : ℕ) → written' ≡ written → failures' ≡ failures + 1
        → Streamed is_text raw (record { left = left; reads = reads; writes = count })
        (record { left = mid; reads = reads'; writes = failures' }) start written' (Err fault.Io)
    simulates_flush_failed written' failures' is n =
        let r = h.running in
        record {
          text = h.text;
          rows = r.rows;
          trace = r.trace;
          done = r.trace;
          read = h.read;
          trace_is = r.trace_is;
          wrote = is ∙ r.wrote;
          ended = inr (
            record { widths = r.has_read.widths; rest = r.has_read.line; text_is = r.has_read.text_is },
            ([], sym (append-nil r.trace)),
            (h.no_failure, omega (arith, r.no_failure, n)),
          );
        }

  module _ {raw : Raw} {left mid to : Option (List ℕ)} {reads reads' reads'' : ℕ} {start : Option (List ℕ)} {count : ℕ}
      {s : Simulation T}
      {written : Option (List ℕ)} {failures : ℕ}
      (h : ReadSoFar is_text recorded raw left mid reads reads' start count s written failures) where
    pub read_more : (chunk : List ℕ) (s' : Simulation T) (written' : Option (List ℕ)) (failures' : ℕ) → mid
        ≡ before chunk to → reads'' ≡ reads' + 0
        → SimulationGoesOn is_text recorded chunk s s' written written' failures failures'
        → ReadSoFar is_text recorded raw left to reads reads'' start count s' written' failures'
    read_more chunk s' written' failures' e n g = record {
      text = h.text ++ chunk;
      read = h.read ∙ ap (before h.text) e ∙ before-before h.text chunk to;
      no_failure = omega (arith, h.no_failure, n);
      running = g raw start count h.text h.running;
    }

    stopped : (chunk : List ℕ) (written' : Option (List ℕ)) (failures' : ℕ) (f : StimFault) → mid ≡ before chunk to
        → reads'' ≡ reads' + 0
        → Stopped is_text raw start count (h.text ++ chunk) written' failures' f
        → Streamed is_text raw (record { left = left; reads = reads; writes = count })
        (record { left = to; reads = reads''; writes = failures' }) start written' (Err f)
    stopped chunk written' failures' fault.Io e n k = record {
      text = h.text ++ chunk;
      rows = k.rows;
      trace = k.trace;
      done = k.done;
      read = h.read ∙ ap (before h.text) e ∙ before-before h.text chunk to;
      trace_is = k.trace_is;
      wrote = k.wrote;
      ended = inr (k.why.0, k.why.1, (omega (arith, h.no_failure, n), k.why.2));
    }
    stopped chunk written' failures' (fault.Char m) e n k = record {
      text = h.text ++ chunk;
      rows = k.rows;
      trace = k.trace;
      done = k.done;
      read = h.read ∙ ap (before h.text) e ∙ before-before h.text chunk to;
      trace_is = k.trace_is;
      wrote = k.wrote;
      ended = (k.why.0, k.why.1, (omega (arith, h.no_failure, n), k.why.2));
    }
    stopped chunk written' failures' (fault.Length m) e n k = record {
      text = h.text ++ chunk;
      rows = k.rows;
      trace = k.trace;
      done = k.done;
      read = h.read ∙ ap (before h.text) e ∙ before-before h.text chunk to;
      trace_is = k.trace_is;
      wrote = k.wrote;
      ended = (k.why.0, k.why.1, (omega (arith, h.no_failure, n), k.why.2));
    }
    stopped chunk written' failures' fault.Unfinished e n k = absurd k.why
    stopped chunk written' failures' fault.Limit e n k = absurd k.why
    stopped chunk written' failures' fault.Memory e n k = absurd k.why

    pub simulates_stopped : (chunk : List ℕ) (written' : Option (List ℕ)) (failures' : ℕ) (f : StimFault) → mid
        ≡ before chunk to → reads'' ≡ reads' + 0
        → SimulationStops is_text recorded chunk s written written' failures failures' f
        → Streamed is_text raw (record { left = left; reads = reads; writes = count })
        (record { left = to; reads = reads''; writes = failures' }) start written' (Err f)
    simulates_stopped chunk written' failures' f e n k =
        stopped chunk written' failures' f e n (k raw start count h.text h.running)

    -- a read failed
    pub simulates_read_failed : mid ≡ before [] to → reads'' ≡ reads' + 1
        → Streamed is_text raw (record { left = left; reads = reads; writes = count })
        (record { left = to; reads = reads''; writes = failures }) start written (Err fault.Io)
    simulates_read_failed e n =
        let r = h.running in
        record {
          text = h.text;
          rows = r.rows;
          trace = r.trace;
          done = r.trace;
          read = nothing_read h.text left mid to h.read e;
          trace_is = r.trace_is;
          wrote = r.wrote;
          ended = inl (
            record {
              widths = r.has_read.widths;
              rest = r.has_read.line;
              no_end = r.has_read.no_end;
              text_is =
                  r.has_read.text_is;
            },
            refl,
            (omega (arith, h.no_failure, n), r.no_failure),
          );
        }

    -- the reader is at its end
    pub simulates_end : (result : Result ℕ StimFault) → s.line.width ≡ length s.machine.circuit.inputs
        → mid ≡ before [] to → reads'' ≡ reads' + 0 → IsAtEnd to → IfOk result (λ n. n ≡ s.frames)
        → OnOk result ((line : List ℕ) → KeepsLine s.line.width line s.line.shape s.line.values → line ≡ [])
        → IfErr result (λ f. f ≡ fault.Unfinished)
        → OnErr result ((line : List ℕ) → KeepsLine s.line.width line s.line.shape s.line.values → line ≢ [])
        → Streamed is_text raw (record { left = left; reads = reads; writes = count })
        (record { left = to; reads = reads''; writes = failures }) start written result
    simulates_end (Ok n) width e m at_end frames none u v =
        let r = h.running in
        let wide : length raw.inputs ≡ s.line.width = sym (width ∙ ap (λ (c : Raw). length c.inputs) r.circuit_is) in
        record {
          text = h.text;
          rows = r.rows;
          trace = r.trace;
          done = r.trace;
          read = nothing_read h.text left mid to h.read e;
          trace_is = r.trace_is;
          wrote = r.wrote;
          ended = (
            read_end r.has_read (λ line k. none line (subst (λ (w : ℕ). KeepsLine w line s.line.shape s.line.values) wide k)),
            at_end,
            refl,
            frames ∙ r.frames_are,
            (omega (arith, h.no_failure, m), r.no_failure),
          );
        }
    simulates_end (Err f) width e m at_end u v is some =
        let r = h.running in
        let wide : length raw.inputs ≡ s.line.width = sym (width ∙ ap (λ (c : Raw). length c.inputs) r.circuit_is) in
        subst (λ (g : StimFault). Streamed is_text raw (record { left = left; reads = reads; writes = count })
        (record { left = to; reads = reads''; writes = failures }) start written (Err g)) (sym is)
        (record {
          text = h.text;
          rows = r.rows;
          trace = r.trace;
          done = r.trace;
          read = nothing_read h.text left mid to h.read e;
          trace_is = r.trace_is;
          wrote = r.wrote;
          ended = (
            (
              read_unfinished r.has_read
                  (λ line k. some line (subst (λ (w : ℕ). KeepsLine w line s.line.shape s.line.values) wide k)),
              at_end,
            ),
            refl,
            (omega (arith, h.no_failure, m), r.no_failure),
          );
        })

-- no memory was found
pub simulates_nothing : (raw : Raw) (left : Option (List ℕ)) (reads : ℕ) (start : Option (List ℕ)) (count : ℕ)
    → Simulates raw (record { left = left; reads = reads; writes = count })
    (record { left = left; reads = reads; writes = count }) start start (Err fault.Memory)
simulates_nothing raw left reads start count = record {
  text = [];
  rows = [];
  trace = [];
  done = [];
  read = sym (before_nil left);
  trace_is = refl;
  wrote = sym (after-nil start);
  ended = ((refl, refl), refl, (refl, refl));
}

-- a simulation that has begun does not run out of memory
stops_for_no_memory : (is_text : RunText) (raw : Raw) (start : Option (List ℕ)) (count : ℕ) (text : List ℕ)
    (written : Option (List ℕ)) (failures : ℕ) (f : StimFault) → f ≡ fault.Memory
    → Stopped is_text raw start count text written failures f → ⊥
stops_for_no_memory is_text raw start count text written failures f is s =
    subst (λ (f : StimFault). StopsBy raw count text s.rows s.trace s.done failures f) is s.why

pub stopped_for_no_memory : {is_text : RunText} {raw : Raw} {start : Option (List ℕ)} {count : ℕ} {text : List ℕ}
    {written : Option (List ℕ)} {failures : ℕ} (r : Result ℕ StimFault) (f : StimFault) → IsErrAnd r (λ g. g ≡ f)
    → Stopped is_text raw start count text written failures f → IfErr r (λ g. g ≢ fault.Memory)
stopped_for_no_memory {is_text} {raw} {start} {count} {text} {written} {failures} r f h stopped =
    known_err r f (λ g. g ≢ fault.Memory) h
    (λ is. stops_for_no_memory is_text raw start count text written failures f is stopped)
