-- A dump of a simulation, from its header to its end.
use Rattle.std.proofs.Common.{◌≡◌, ◌≢◌, ℕ, zero, suc, ◌+◌, ◌-◌, ◌^◌, ◌<◌, min, List, [], ◌++◌, length, inl, inr, refl}
use Rattle.std.proofs.Common.{sym, ap, ◌∙◌, arith, append_assoc, length-append, Ok, Err}
use Rattle.std.specs.Prelude.{Option}
use Rattle.std.proofs.lemmas.List.{append-nil}
use Rattle.std.proofs.lemmas.List.Elements.{All-nil}
use Rattle.aig_parts.specs.declared.ternary.Tern.{Tern}
use Rattle.aig_parts.specs.declared.raw.Raw.{Raw}
use Rattle.aig_bytes.specs.Bytes.{after, IsBeginning}
use Rattle.aig_bytes.proofs.WriteLemmas.{after-append, after-nil}
use Rattle.aig_sim.specs.declared.stimulus.fault.StimFault.{StimFault}
use Rattle.aig_sim.specs.declared.stimulus.fault.StimFault.TheVariants as fault
use Rattle.aig_sim.specs.Dump.{closing}
use Rattle.aig_sim.specs.DumpHeader.{header}
use Rattle.aig_sim.specs.Dumped.{Dumps}
use Rattle.aig_sim.specs.state.Dumping.{AreDumped, time_line, ending}
use Rattle.aig_sim.specs.state.Running.{RunText, Streamed}
use Rattle.aig_sim.proofs.SimulationLemmas.{before_nil}

-- what the frames of a dump are
abbrev dumped : RunText
dumped raw start rows text = AreDumped raw start rows text

pub ending_is : (n k : ℕ) → n ≡ min k (2 ^ 64 - 1) → ending n ≡ closing k
ending_is n zero is = ap ending is
ending_is zero (suc k) is = absurd (omega (arith, is))
ending_is (suc n) (suc k) is = ap time_line is

-- no more bytes than the header has are a part of it
past_header : (h d : List ℕ) → length (h ++ d) < length h → ⊥
past_header h d lt = omega (arith, lt, length-append h d)

-- ---- no memory, and a header that could not be written
pub dumps_nothing : (raw : Raw) (left : Option (List ℕ)) (reads : ℕ) (written : Option (List ℕ)) (writes : ℕ)
    → Dumps raw (record { left = left; reads = reads; writes = writes })
    (record { left = left; reads = reads; writes = writes }) written written (Err fault.Memory)
dumps_nothing raw left reads written writes = record {
  text = [];
  rows = [];
  frames = [];
  done = [];
  read = sym (before_nil left);
  frames_are = refl;
  wrote = sym (after-nil written);
  ended = (refl, refl, refl, (refl, refl));
}

pub dumps_no_header : (raw : Raw) (left : Option (List ℕ)) (reads writes writes' : ℕ) (written written' : Option (List ℕ))
    → (done : List ℕ) × IsBeginning done (header raw) × (written' ≡ after written done) → writes' ≡ writes + 1
    → Dumps raw (record { left = left; reads = reads; writes = writes })
    (record { left = left; reads = reads; writes = writes' }) written written' (Err fault.Io)
dumps_no_header raw left reads writes writes' written written' (done, begins, wrote) count = record {
  text = [];
  rows = [];
  frames = [];
  done = done;
  read = sym (before_nil left);
  frames_are = refl;
  wrote = wrote;
  ended = inr (
    record {
      rows_are = record { widths = All-nil (λ (row : List Tern). length row ≡ length raw.inputs); rest = []; text_is = refl };
      beginning = inl (begins.0, append-nil (header raw) ∙ begins.1);
      header_first = λ lt. refl;
    },
    (refl, omega (arith, count)),
  );
}

-- ---- after the header
module _ (raw : Raw) (left left' : Option (List ℕ)) (reads reads' first second third : ℕ)
    (written reported at_end : Option (List ℕ)) (header_is : reported ≡ after written (header raw)) (count : second ≡ first + 0) where
  -- what was written after the header
  all_written : (done : List ℕ) → at_end ≡ after reported done → at_end ≡ after written (header raw ++ done)
  all_written done wrote =
      wrote ∙ ap (λ (w : Option (List ℕ)). after w done) header_is ∙ after-append written (header raw) done

  pub dumps_stopped : (f : StimFault) → f ≢ fault.Memory
      → Streamed dumped raw (record { left = left; reads = reads; writes = second })
      (record { left = left'; reads = reads'; writes = third }) reported at_end (Err f)
      → Dumps raw (record { left = left; reads = reads; writes = first })
      (record { left = left'; reads = reads'; writes = third }) written at_end (Err f)
  dumps_stopped fault.Memory ne h = absurd (ne refl)
  dumps_stopped fault.Limit ne h = absurd h.ended.0
  dumps_stopped (fault.Char n) ne h = record {
    text = h.text;
    rows = h.rows;
    frames = h.trace;
    done = header raw ++ h.done;
    read = h.read;
    frames_are = h.trace_is;
    wrote = all_written h.done h.wrote;
    ended = (h.ended.0, ap (λ (t : List ℕ). header raw ++ t) h.ended.1, (h.ended.2.0, omega (arith, h.ended.2.1, count)));
  }
  dumps_stopped (fault.Length n) ne h = record {
    text = h.text;
    rows = h.rows;
    frames = h.trace;
    done = header raw ++ h.done;
    read = h.read;
    frames_are = h.trace_is;
    wrote = all_written h.done h.wrote;
    ended = (h.ended.0, ap (λ (t : List ℕ). header raw ++ t) h.ended.1, (h.ended.2.0, omega (arith, h.ended.2.1, count)));
  }
  dumps_stopped fault.Unfinished ne h = record {
    text = h.text;
    rows = h.rows;
    frames = h.trace;
    done = header raw ++ h.done;
    read = h.read;
    frames_are = h.trace_is;
    wrote = all_written h.done h.wrote;
    ended = (h.ended.0, ap (λ (t : List ℕ). header raw ++ t) h.ended.1, (h.ended.2.0, omega (arith, h.ended.2.1, count)));
  }
  dumps_stopped fault.Io ne h = record {
    text = h.text;
    rows = h.rows;
    frames = h.trace;
    done = header raw ++ h.done;
    read = h.read;
    frames_are = h.trace_is;
    wrote = all_written h.done h.wrote;
    ended = elim h.ended [
      | inl e ↦ inl (e.0, ap (λ (t : List ℕ). header raw ++ t) e.1, (e.2.0, omega (arith, e.2.1, count)))
      | inr e ↦ inr (
        record {
          rows_are = e.0;
          beginning = inl (
            e.1.0,
            ap (λ (t : List ℕ). header raw ++ t) e.1.1 ∙ sym (append_assoc (header raw) h.done e.1.0),
          );
          header_first = λ lt. absurd (past_header (header raw) h.done lt);
        },
        (e.2.0, omega (arith, e.2.1, count)),
      )
    ];
  }

  -- ---- the end
  module _ (n : ℕ) (h : Streamed dumped raw (record { left = left; reads = reads; writes = second })
      (record { left = left'; reads = reads'; writes = third }) reported at_end (Ok n)) (fourth : ℕ) (last : Option (List ℕ)) where
    end_is : ending n ≡ closing (length h.rows)
    end_is = ending_is n (length h.rows) h.ended.3

    pub dumps_all : last ≡ after at_end (ending n) → fourth ≡ third + 0
        → Dumps raw (record { left = left; reads = reads; writes = first })
        (record { left = left'; reads = reads'; writes = fourth }) written last (Ok n)
    dumps_all wrote none = record {
      text = h.text;
      rows = h.rows;
      frames = h.trace;
      done = header raw ++ (h.done ++ ending n);
      read = h.read;
      frames_are = h.trace_is;
      wrote = wrote ∙ ap (λ (w : Option (List ℕ)). after w (ending n)) (all_written h.done h.wrote)
          ∙ after-append written (header raw ++ h.done) (ending n)
          ∙ ap (after written) (append_assoc (header raw) h.done (ending n));
      ended = (
        h.ended.0,
        h.ended.1,
        (λ i. header raw ++ (h.ended.2 i ++ end_is i)),
        h.ended.3,
        (h.ended.4.0, omega (arith, h.ended.4.1, count, none)),
      );
    }

    pub dumps_no_end : (done : List ℕ) × IsBeginning done (ending n) × (last ≡ after at_end done) → fourth ≡ third + 1
        → Dumps raw (record { left = left; reads = reads; writes = first })
        (record { left = left'; reads = reads'; writes = fourth }) written last (Err fault.Io)
    dumps_no_end (done, begins, wrote) one = record {
      text = h.text;
      rows = h.rows;
      frames = h.trace;
      done = header raw ++ (h.done ++ done);
      read = h.read;
      frames_are = h.trace_is;
      wrote = wrote ∙ ap (λ (w : Option (List ℕ)). after w done) (all_written h.done h.wrote)
          ∙ after-append written (header raw ++ h.done) done
          ∙ ap (after written) (append_assoc (header raw) h.done done);
      ended = inr (
        record {
          rows_are =
              record { widths = h.ended.0.widths; rest = []; text_is = h.ended.0.text_is ∙ sym (append-nil _) };
          beginning = inr (
            h.ended.0,
            h.ended.1,
            (
              begins.0,
              (λ i. header raw ++ (sym h.ended.2 i ++ (sym end_is ∙ begins.1) i))
                  ∙ ap (λ (t : List ℕ). header raw ++ t) (sym (append_assoc h.done done begins.0))
                  ∙ sym (append_assoc (header raw) (h.done ++ done) begins.0),
            ),
          );
          header_first = λ lt. absurd (past_header (header raw) (h.done ++ done) lt);
        },
        (h.ended.4.0, omega (arith, h.ended.4.1, count, one)),
      );
    }
