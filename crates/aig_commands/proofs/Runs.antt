-- How a run on a stimulus ends, by what the simulator and the dump promise.
use Rattle.std.proofs.Common.{◌≡◌, ◌≢◌, ℕ, ◌+◌, List, [], ◌∷◌, ◌++◌, inl, inr, Result, Ok, Err, refl, sym, ◌∙◌, ap}
use Rattle.std.proofs.Common.{subst, length, All, arith}
use Rattle.std.proofs.lemmas.List.{append-nil}
use Rattle.std.specs.List.{flat_map}
use Rattle.std.specs.Prelude.{Option, true, false}
use Rattle.aig_parts.specs.declared.fault.Fault.{Fault}
use Rattle.aig_parts.specs.declared.raw.Raw.{Raw}
use Rattle.aig_parts.specs.declared.ternary.Tern.{Tern}
use Rattle.aig_bytes.specs.Bytes.{before, after, IsAtEnd, IsBeginning}
use Rattle.aig_bytes.specs.Flow.{Flow}
use Rattle.aig_base.specs.Value.{start_of}
use Rattle.aig_sim.specs.declared.stimulus.fault.StimFault.{StimFault}
use Rattle.aig_sim.specs.declared.stimulus.fault.StimFault.TheVariants as stimuli
use Rattle.aig_sim.specs.Dump.{closing}
use Rattle.aig_sim.specs.DumpHeader.{header}
use Rattle.aig_sim.specs.Dumped as dumped
use Rattle.aig_sim.specs.Simulated as simulated
use Rattle.aig_sim.specs.Simulated.{Streams, BeginsWithRows, NoneFailed, OneReadFailed, OneWriteFailed}
use Rattle.aig_sim.specs.StimulusText.{row_line, HoldsRows, SpellsRows}
use Rattle.aig_command.specs.declared.run_fault.RunFault.{RunFault}
use Rattle.aig_command.specs.declared.run_fault.RunFault.TheVariants as run_faults
use Rattle.aig_command.specs.Command.{Got, BreaksOff, Text, Gave, WritesAll, EndsReading}
use Rattle.aig_command.proofs.Written.{gave_part, gave_whole}
use Rattle.aig_commands.specs.Sim.{AreRowsOf, WritesSimulation}
use Rattle.aig_commands.specs.Wave.{WritesWave, dump_text}

-- a fault of the simulator is the stimulus's
abbrev pub stimulus_of : Result ℕ StimFault → Result ℕ RunFault
stimulus_of (Ok n) = Ok n
stimulus_of (Err fault) = Err (run_faults.Stimulus fault)

-- the rows that a text begins with are those of the text that has only their lines
only_rows : (width : ℕ) (text : List ℕ) (rows : List (List Tern)) → BeginsWithRows width text rows
    → HoldsRows width (flat_map row_line rows) rows
only_rows width text rows begins = record {
  widths = begins.widths;
  rest = [];
  no_end = λ k d lt. let no : ⊥ = omega (arith, lt) in absurd no;
  text_is = sym (append-nil (flat_map row_line rows));
}

module _ {Y X : Type 0} (reader : Flow Y) (out : Flow X) where
  abbrev pub streams : Y → X → Streams
  streams y x = record { left = reader.bytes y; reads = reader.failures y; writes = out.failures x }

  got_so : (written all : List ℕ) → out.bytes out.new ≡ after (out.bytes out.old) written → written ≡ all
      → out.failures out.new ≡ out.failures out.old → Got out all
  got_so written all wrote is count = record { got = wrote ∙ ap (after (out.bytes out.old)) is; count = count }

  breaks_so : (written all : List ℕ) → IsBeginning written all → out.bytes out.new ≡ after (out.bytes out.old) written
      → out.failures out.new ≡ out.failures out.old + 1 → BreaksOff out all
  breaks_so written all beginning wrote count =
      record { done = written; beginning = beginning; got = wrote; count = omega (arith, count) }

  module _ (raw : Raw) where
    abbrev pub Simulated : Result ℕ StimFault → Type 0
    Simulated r =
        simulated.Simulates raw (streams reader.old out.old) (streams reader.new out.new) (out.bytes out.old) (out.bytes out.new) r

    abbrev pub Dumped : Result ℕ StimFault → Type 0
    Dumped r =
        dumped.Dumps raw (streams reader.old out.old) (streams reader.new out.new) (out.bytes out.old) (out.bytes out.new) r

    abbrev pub Trace : Text → Result ℕ RunFault → List ℕ → Type 0
    Trace text answer bytes = WritesSimulation text raw answer bytes

    abbrev pub Dump : Text → Result ℕ RunFault → List ℕ → Type 0
    Dump text answer bytes = WritesWave text raw answer bytes

    -- a fault of a line, or no memory
    simulated_fault : (fault : StimFault) (whole : Text) → (s : Simulated (Err fault)) → Gave reader whole 0
        → AreRowsOf (length raw.inputs) whole s.rows (Err (run_faults.Stimulus fault)) → s.done ≡ s.trace
        → out.failures out.new ≡ out.failures out.old → WritesAll reader out 0 Trace (Err (run_faults.Stimulus fault))
    simulated_fault fault whole s gave rows is count = record {
      text = whole;
      bytes = s.trace;
      gave = gave;
      means = record { rows = s.rows; rows_are = rows; trace_is = s.trace_is };
      whole = tt;
      got = got_so s.done s.trace s.wrote is count;
    }

    pub simulates_ends : (r : Result ℕ StimFault) → Simulated r
        → EndsReading reader out (run_faults.Stimulus stimuli.Io) Trace (stimulus_of r)
    simulates_ends (Ok n) s =
        let (spells, end, is, number, none) = s.ended in
        EndsReading.writes_all {answer = Ok n} (λ e. let no : ⊥ = cc in no) (record {
          text = record { bytes = s.text; is_whole = true };
          bytes = s.trace;
          gave = gave_whole reader s.text s.read end none.0;
          means = record { rows = s.rows; rows_are = (spells, refl, number); trace_is = s.trace_is };
          whole = refl;
          got = got_so s.done s.trace s.wrote is none.1;
        })
    simulates_ends (Err stimuli.Io) s = elim s.ended [
      | inl (holds, is, one) ↦ EndsReading.stops_reading (record {
        text = record { bytes = s.text; is_whole = false };
        bytes = s.trace;
        gave = gave_part reader s.text 1 s.read one.0;
        means = record { rows = s.rows; rows_are = holds; trace_is = s.trace_is };
        whole = tt;
        got = got_so s.done s.trace s.wrote is one.1;
      })
      | inr (begins, beginning, one) ↦ EndsReading.breaks_off (record {
        text = record { bytes = s.text; is_whole = false };
        failed = 0;
        few = omega arith;
        gave = gave_part reader s.text 0 s.read (omega (arith, one.0));
        part = record { bytes = flat_map row_line s.rows; is_whole = false };
        beginning = (begins.rest, begins.text_is);
        whole = λ is. let no : ⊥ = cc is in absurd no;
        answer = Err (run_faults.Stimulus stimuli.Io);
        bytes = s.trace;
        means = record {
          rows = s.rows;
          rows_are = only_rows (length raw.inputs) s.text s.rows begins;
          trace_is = s.trace_is;
        };
        breaks_off = breaks_so s.done s.trace beginning s.wrote one.1;
      })
    ]
    simulates_ends (Err stimuli.Unfinished) s =
        let (fault, is, none) = s.ended in
        EndsReading.writes_all {answer = Err (run_faults.Stimulus stimuli.Unfinished)} (λ e. let no : ⊥ = cc in no)
        (simulated_fault stimuli.Unfinished (record { bytes = s.text; is_whole = true }) s
        (gave_whole reader s.text s.read fault.1 none.0) (fault.0, refl) is none.1)
    simulates_ends (Err stimuli.Limit) s = absurd s.ended.0
    simulates_ends (Err why) s =
        let (fault, is, none) = s.ended in
        EndsReading.writes_all {answer = Err (run_faults.Stimulus why)} (λ e. let no : ⊥ = cc in no)
        (simulated_fault why (record { bytes = s.text; is_whole = false }) s
        (gave_part reader s.text 0 s.read (omega (arith, none.0))) fault is none.1)

    dumped_fault : (fault : StimFault) (whole : Text) → (s : Dumped (Err fault)) → Gave reader whole 0
        → AreRowsOf (length raw.inputs) whole s.rows (Err (run_faults.Stimulus fault))
        → s.done ≡ dump_text raw (length s.rows) s.frames (Err (run_faults.Stimulus fault))
        → out.failures out.new ≡ out.failures out.old → WritesAll reader out 0 Dump (Err (run_faults.Stimulus fault))
    dumped_fault fault whole s gave rows is count = record {
      text = whole;
      bytes = dump_text raw (length s.rows) s.frames (Err (run_faults.Stimulus fault));
      gave = gave;
      means = record { rows = s.rows; frames = s.frames; rows_are = rows; frames_are = s.frames_are; written_is = refl };
      whole = tt;
      got = got_so s.done (dump_text raw (length s.rows) s.frames (Err (run_faults.Stimulus fault))) s.wrote is count;
    }

    pub dumps_ends : (r : Result ℕ StimFault) → Dumped r
        → EndsReading reader out (run_faults.Stimulus stimuli.Io) Dump (stimulus_of r)
    dumps_ends (Ok n) s =
        let (spells, end, is, number, none) = s.ended in
        EndsReading.writes_all {answer = Ok n} (λ e. let no : ⊥ = cc in no) (record {
          text = record { bytes = s.text; is_whole = true };
          bytes = dump_text raw (length s.rows) s.frames (Ok n);
          gave = gave_whole reader s.text s.read end none.0;
          means = record {
            rows = s.rows;
            frames = s.frames;
            rows_are = (spells, refl, number);
            frames_are = s.frames_are;
            written_is = refl;
          };
          whole = refl;
          got = got_so s.done (dump_text raw (length s.rows) s.frames (Ok n)) s.wrote is none.1;
        })
    dumps_ends (Err stimuli.Io) s = elim s.ended [
      | inl (holds, is, one) ↦ EndsReading.stops_reading (record {
        text = record { bytes = s.text; is_whole = false };
        bytes = header raw ++ s.frames;
        gave = gave_part reader s.text 1 s.read one.0;
        means = record { rows = s.rows; frames = s.frames; rows_are = holds; frames_are = s.frames_are; written_is = refl };
        whole = tt;
        got = got_so s.done (header raw ++ s.frames) s.wrote is one.1;
      })
      | inr (breaks, one) ↦ elim breaks.beginning [
        | inl part ↦ EndsReading.breaks_off (record {
          text = record { bytes = s.text; is_whole = false };
          failed = 0;
          few = omega arith;
          gave = gave_part reader s.text 0 s.read (omega (arith, one.0));
          part = record { bytes = flat_map row_line s.rows; is_whole = false };
          beginning = (breaks.rows_are.rest, breaks.rows_are.text_is);
          whole = λ is. let no : ⊥ = cc is in absurd no;
          answer = Err (run_faults.Stimulus stimuli.Io);
          bytes = header raw ++ s.frames;
          means = record {
            rows = s.rows;
            frames = s.frames;
            rows_are = only_rows (length raw.inputs) s.text s.rows breaks.rows_are;
            frames_are = s.frames_are;
            written_is = refl;
          };
          breaks_off = breaks_so s.done (header raw ++ s.frames) part s.wrote one.1;
        })
        | inr (spells, end, all) ↦ EndsReading.breaks_off (record {
          text = record { bytes = s.text; is_whole = true };
          failed = 0;
          few = omega arith;
          gave = gave_whole reader s.text s.read end (omega (arith, one.0));
          part = record { bytes = s.text; is_whole = true };
          beginning = ([], sym (append-nil s.text));
          whole = λ is. refl;
          answer = Ok _;
          bytes = header raw ++ (s.frames ++ closing (length s.rows));
          means = record {
            rows = s.rows;
            frames = s.frames;
            rows_are = (spells, refl, refl);
            frames_are = s.frames_are;
            written_is = refl;
          };
          breaks_off = breaks_so s.done (header raw ++ (s.frames ++ closing (length s.rows))) all s.wrote one.1;
        })
      ]
    ]
    dumps_ends (Err stimuli.Unfinished) s =
        let (fault, is, none) = s.ended in
        EndsReading.writes_all {answer = Err (run_faults.Stimulus stimuli.Unfinished)} (λ e. let no : ⊥ = cc in no)
        (dumped_fault stimuli.Unfinished (record { bytes = s.text; is_whole = true }) s
        (gave_whole reader s.text s.read fault.1 none.0) (fault.0, refl) is none.1)
    dumps_ends (Err stimuli.Limit) s = absurd s.ended.0
    dumps_ends (Err stimuli.Memory) s =
        let (text, rows, is, none) = s.ended in
        EndsReading.writes_all {answer = Err (run_faults.Stimulus stimuli.Memory)} (λ e. let no : ⊥ = cc in no)
        (dumped_fault stimuli.Memory (record { bytes = s.text; is_whole = false }) s
        (gave_part reader s.text 0 s.read (omega (arith, none.0))) (text, rows) is none.1)
    dumps_ends (Err why) s =
        let (fault, is, none) = s.ended in
        EndsReading.writes_all {answer = Err (run_faults.Stimulus why)} (λ e. let no : ⊥ = cc in no)
        (dumped_fault why (record { bytes = s.text; is_whole = false }) s
        (gave_part reader s.text 0 s.read (omega (arith, none.0))) fault is none.1)

-- no fault of a circuit
pub simulates_no_fault : (raw : Raw) (text : Text) (fault : Fault) (bytes : List ℕ)
    → WritesSimulation text raw (Err (run_faults.Circuit fault)) bytes → ⊥
simulates_no_fault raw text fault bytes s = s.rows_are

pub dumps_no_fault : (raw : Raw) (text : Text) (fault : Fault) (bytes : List ℕ)
    → WritesWave text raw (Err (run_faults.Circuit fault)) bytes → ⊥
dumps_no_fault raw text fault bytes s = s.rows_are
