-- The replay of a witness, frame by frame.
use Rattle.std.proofs.Common.{◌≡◌, ℕ, ◌+◌, ◌-◌, ◌^◌, ◌<◌, ◌≤◌, min, List, [], ◌∷◌, ◌++◌, length, map, take, drop}
use Rattle.std.proofs.Common.{get_or, refl, sym, ap, ◌∙◌, subst, arith, Ok, Err, IsErr}
use Rattle.std.specs.Prelude.{IfOk, OnOk, Option, Result}
use Rattle.std.specs.Result.{IsErrAnd}
use Rattle.std.proofs.lemmas.List.{length-take-le, take-append-drop, take_more, take_all}
use Rattle.std.proofs.lemmas.Bool.{false≢true}
use Rattle.aig_parts.specs.declared.ternary.Tern.{Tern}
use Rattle.aig_parts.specs.declared.raw.Raw.{Raw}
use Rattle.aig_bytes.specs.Bytes.{after, Writes}
use Rattle.aig_bytes.proofs.WriteLemmas.{after-append, after-nil, writes_then, writes_err, writes_same, writes_stop}
use Rattle.aig_base.specs.Circuit.{IsCircuit}
use Rattle.aig_sim.specs.declared.witness.replay_fault.ReplayFault.{ReplayFault}
use Rattle.aig_sim.specs.declared.witness.replay_fault.ReplayFault.TheVariants as fault
use Rattle.aig_sim.specs.declared.witness.fault.WitnessFault.{WitnessFault}
use Rattle.aig_sim.specs.declared.witness.text.WitnessParts.{WitnessParts}
use Rattle.aig_sim.specs.Dump.{IsDump, closing}
use Rattle.aig_sim.specs.DumpHeader.{header}
use Rattle.aig_bytes.specs.Flow.{flow}
use Rattle.aig_sim.specs.Replayed.{ReportsRun, Replays}
use Rattle.aig_sim.specs.state.Dumping.{AreDumped, ending}
use Rattle.aig_sim.specs.state.Checking.{ArePartsOf}
use Rattle.aig_values.specs.state.Frame.{HoldsAll, AreStates}
use Rattle.aig_sim.specs.state.Machine.{Steps}
use Rattle.aig_sim.specs.state.Replaying.{BeginsRun, HasReplayed, IsReady, NoneReported, WritesFrames, WritesRun}
use Rattle.aig_sim.specs.state.Running.{RunText, Recorded}
use Rattle.aig_values.specs.Characters.{character}
use Rattle.aig_sim.specs.WitnessText.{Witness, SpellsWitness, IsAdmitted, HasWitnessFault, witness_rows_text}
use Rattle.aig_sim.proofs.DumpedLemmas.{ending_is}
use Rattle.aig_sim.proofs.RunTexts.{dump_goes_on}
use Rattle.aig_values.proofs.TraceLemmas.{first_states, holds_still}
use Rattle.aig_sim.proofs.VerdictLemmas.{row_was_read}

module _ {T : Type 0} {is_text : RunText} {recorded : Recorded T} {raw : Raw} {w : Witness} where
  -- before the first frame
  pub replay_begins : {states : List Tern} (cells : List Tern) {rows : List ℕ} {frames : ℕ} {recorder : T} (written : Option (List ℕ))
      (failures : ℕ) → BeginsRun raw w states rows frames → NoneReported is_text recorded raw w recorder
      → HasReplayed is_text recorded raw w 0 rows states cells recorder written failures written failures
  replay_begins cells written failures h none = record {
    rest_is = h.rows_are.text_is;
    states_are = subst (λ (s : List Tern). AreStates raw w.start [] 0 s) (sym h.states_are) (first_states raw w.start h.latches);
    cells_are = λ u e. absurd (omega (arith, e));
    recorded_are = none.none_recorded;
    reported = [];
    reported_is = none.no_text;
    wrote = sym (after-nil written);
    no_failure = refl;
  }

  -- one frame, whose text is `piece`
  module _ {t : ℕ} {rest : List ℕ} {states cells : List Tern} {recorder : T} {start : Option (List ℕ)} {count : ℕ}
      {written : Option (List ℕ)} {failures : ℕ}
      (h : HasReplayed is_text recorded raw w t rest states cells recorder start count written failures) (lt : t < length w.rows)
      (rest' : List ℕ) (row cells' states' : List Tern) (read : rest ≡ map character row ++ (10 ∷ rest'))
      (step : (start : List Tern) (rows : List (List Tern)) → AreStates raw start rows (length rows) states
      → Steps raw start rows row cells' states')
      (piece : List ℕ) (reported : (start : List Tern) (rows : List (List Tern)) (row : List Tern) (text : List ℕ)
      → is_text raw start rows text → recorded recorder raw start rows
      → HoldsAll raw start (rows ++ row ∷ []) (length rows) cells' → t ≡ min (length rows) (2 ^ 64 - 1)
      → is_text raw start (rows ++ row ∷ []) (text ++ piece)) (small : t < 2 ^ 32) where
    len : length (take t w.rows) ≡ t
    len = length-take-le t w.rows (omega (arith, lt))

    was_read : (row ≡ get_or w.rows t []) × (rest' ≡ witness_rows_text (drop (t + 1) w.rows))
    was_read = row_was_read rest rest' w.rows t row h.rest_is lt read

    rows_so_far : take t w.rows ++ row ∷ [] ≡ take (t + 1) w.rows
    rows_so_far = ap (λ (r : List Tern). take t w.rows ++ r ∷ []) was_read.0 ∙ sym (take_more w.rows t [] lt)

    number_is : t ≡ min (length (take t w.rows)) (2 ^ 64 - 1)
    number_is = omega (arith, len, small)

    stepped : Steps raw w.start (take t w.rows) row cells' states'
    stepped = step w.start (take t w.rows)
        (subst (λ (n : ℕ). AreStates raw w.start (take t w.rows) n states) (sym len) h.states_are)

    cells_hold : HoldsAll raw w.start w.rows t cells'
    cells_hold =
        subst (λ (rows : List (List Tern)). HoldsAll raw w.start rows t cells') (take-append-drop (t + 1) w.rows)
        (holds_still (drop (t + 1) w.rows)
        (subst (λ (rows : List (List Tern)). HoldsAll raw w.start rows t cells') rows_so_far
        (subst (λ (n : ℕ). HoldsAll raw w.start (take t w.rows ++ row ∷ []) n cells') len stepped.cells_are)))

    reported_more : is_text raw w.start (take (t + 1) w.rows) (h.reported ++ piece)
    reported_more =
        subst (λ (rows : List (List Tern)). is_text raw w.start rows (h.reported ++ piece)) rows_so_far
        (reported w.start (take t w.rows) row h.reported h.reported_is h.recorded_are stepped.cells_are number_is)

    -- it was written
    pub replay_more : (recorder' : T) (written' : Option (List ℕ)) (failures' : ℕ)
        → ((start : List Tern) (rows : List (List Tern)) (row : List Tern) → recorded recorder raw start rows
        → HoldsAll raw start (rows ++ row ∷ []) (length rows) cells' → t ≡ min (length rows) (2 ^ 64 - 1)
        → recorded recorder' raw start (rows ++ row ∷ []))
        → written' ≡ after written piece → failures' ≡ failures + 0
        → HasReplayed is_text recorded raw w (t + 1) rest' states' cells' recorder' start count written' failures'
    replay_more recorder' written' failures' kept wrote none = record {
      rest_is = was_read.1;
      states_are = subst (λ (rows : List (List Tern)). AreStates raw w.start rows (t + 1) states') rows_so_far
          (subst (λ (n : ℕ). AreStates raw w.start (take t w.rows ++ row ∷ []) (n + 1) states') len stepped.states_are);
      cells_are = λ u e. subst (λ (n : ℕ). HoldsAll raw w.start w.rows n cells') (omega (arith, e)) cells_hold;
      recorded_are = subst (λ (rows : List (List Tern)). recorded recorder' raw w.start rows) rows_so_far
          (kept w.start (take t w.rows) row h.recorded_are stepped.cells_are number_is);
      reported = h.reported ++ piece;
      reported_is = reported_more;
      wrote = wrote ∙ ap (λ (x : Option (List ℕ)). after x piece) h.wrote ∙ after-append start h.reported piece;
      no_failure = omega (arith, none, h.no_failure);
    }

    -- a write of it failed
    pub replay_stops : {X E F : Type 0} {of_written : X → Option (List ℕ)} {of_failures : X → ℕ} {old mid new : X} {e : E}
        {s : Result (Unit {0}) F}
        → start ≡ of_written old → count ≡ of_failures old → written ≡ of_written mid → failures ≡ of_failures mid
        → Writes {T = Unit {0}} of_written of_failures mid new piece (Err e) → IsErr s
        → WritesFrames is_text raw w of_written of_failures old new s
    replay_stops {of_written} {of_failures} {old} {mid} {new} {s = Err f} a b c d k is =
        let first : Writes {T = Unit {0}} {E = Unit {0}} of_written of_failures old mid h.reported (Ok tt) =
        record {
          ok = sym c ∙ h.wrote ∙ ap (λ (x : Option (List ℕ)). after x h.reported) a;
          err = tt;
          count = omega (arith, b, d, h.no_failure);
        } in
        let second : Writes {T = Unit {0}} of_written of_failures mid new piece (Err f) = writes_err k is in
        record {
          frames = t + 1;
          few = omega (arith, lt);
          reported = h.reported ++ piece;
          reported_is = reported_more;
          writes = writes_then first second;
          whole = tt;
        }
    replay_stops {s = Ok x} a b c d k is = absurd (false≢true is)

-- all frames were written
pub replay_ends : {T X E : Type 0} {is_text : RunText} {recorded : Recorded T} {raw : Raw} {w : Witness} {t : ℕ} {rest : List ℕ}
    {states cells : List Tern} {recorder : T} {written : X → Option (List ℕ)} {failures : X → ℕ} {old new : X}
    → HasReplayed is_text recorded raw w t rest states cells recorder (written old) (failures old) (written new) (failures new)
    → t ≡ length w.rows → WritesFrames {E = E} is_text raw w written failures old new (Ok tt)
replay_ends {t} h all = record {
  frames = t;
  few = omega (arith, all);
  reported = h.reported;
  reported_is = h.reported_is;
  writes = record { ok = h.wrote; err = tt; count = omega (arith, h.no_failure) };
  whole = all;
}

pub not_ok : {A E : Type 0} (P : Type 0) (r : Result A E) → IsErr r → OnOk r P
not_ok P (Err e) is = tt
not_ok P (Ok x) is = absurd (false≢true is)

pub not_ok_if : {A E : Type 0} (P : A → Type 0) (Q : E → Type 0) (r : Result A E) → IsErrAnd r Q → IfOk r P
not_ok_if P Q (Err e) is = tt
not_ok_if P Q (Ok x) is = absurd is

-- a text of the first frames, of which a beginning was written, goes on to one of all frames
pub run_written : {X E : Type 0} {is_text : RunText} {raw : Raw} {w : Witness} {written : X → Option (List ℕ)} {failures : X → ℕ}
    {old new : X} {r : Result (Unit {0}) E}
    → ((t : ℕ) (text : List ℕ) → t ≤ length w.rows → is_text raw w.start (take t w.rows) text
    → (rest : List ℕ) × is_text raw w.start w.rows (text ++ rest))
    → WritesFrames is_text raw w written failures old new r → WritesRun is_text raw w written failures old new r
run_written {is_text} {raw} {w} {r = Ok x} goes_on h = record {
  reported = h.reported;
  reported_is = subst (λ (rows : List (List Tern)). is_text raw w.start rows h.reported)
      (take_all h.frames w.rows (omega (arith, h.whole))) h.reported_is;
  writes = h.writes;
}
run_written {r = Err e} goes_on h =
    let (rest, all) = goes_on h.frames h.reported h.few h.reported_is in
    record { reported = h.reported ++ rest; reported_is = all; writes = writes_stop rest h.writes refl }

-- ---- dumps
module _ {raw : Raw} {w : Witness} {states : List Tern} {rows : List ℕ} {frames : ℕ}
    (ready : BeginsRun raw w states rows frames) where
  dump_on : (t : ℕ) (text : List ℕ) → t ≤ length w.rows → AreDumped raw w.start (take t w.rows) text
      → (rest : List ℕ) × AreDumped raw w.start w.rows (text ++ rest)
  dump_on =
      dump_goes_on raw ready.circuit w.start w.rows (record { latches = ready.latches; inputs = ready.rows_are.widths })

  module _ {X E : Type 0} {written : X → Option (List ℕ)} {failures : X → ℕ} where
    pub dump_no_header : {F : Type 0} {old new : X} {e : F} {r : Result (Unit {0}) E}
        → Writes {T = Unit {0}} written failures old new (header raw) (Err e) → IsErr r
        → WritesRun (λ raw start rows text. IsDump raw start rows text) raw w written failures old new r
    dump_no_header k is =
        let (text, are) = dump_on 0 [] (omega arith) refl in
        record {
          reported = header raw ++ (text ++ closing (length w.rows));
          reported_is = record { frames = text; frames_are = are; text_is = refl };
          writes = writes_stop (text ++ closing (length w.rows)) k is;
        }

    module _ {F : Type 0} {old mid new : X} {x : Unit {0}}
        (first : Writes {E = F} written failures old mid (header raw) (Ok x)) where
      pub dump_no_frames : {G : Type 0} {e : G} {r : Result (Unit {0}) E}
          → WritesFrames (λ raw start rows text. AreDumped raw start rows text) raw w written failures mid new (Err e) → IsErr r
          → WritesRun (λ raw start rows text. IsDump raw start rows text) raw w written failures old new r
      dump_no_frames h is =
          let run = run_written dump_on h in
          record {
            reported = header raw ++ (run.reported ++ closing (length w.rows));
            reported_is = record { frames = run.reported; frames_are = run.reported_is; text_is = refl };
            writes = writes_then first (writes_stop (closing (length w.rows)) run.writes is);
          }

      pub dump_written : {G : Type 0} {y : Unit {0}} {last : X} {r : Result (Unit {0}) E}
          → WritesFrames {E = G} (λ raw start rows text. AreDumped raw start rows text) raw w written failures mid new (Ok y)
          → frames < 2 ^ 32 → Writes written failures new last (ending frames) r
          → WritesRun (λ raw start rows text. IsDump raw start rows text) raw w written failures old last r
      dump_written h few end =
          let run = run_written dump_on h in
          record {
            reported = header raw ++ (run.reported ++ closing (length w.rows));
            reported_is = record { frames = run.reported; frames_are = run.reported_is; text_is = refl };
            writes = writes_then first (writes_then run.writes
                (writes_same end (ending_is frames (length w.rows) (omega (arith, few, ready.frames_are)))));
          }

-- ---- from the run to the text of the witness
pub ready_is : {raw raw' : Raw} {parts : WitnessParts} {w : Witness} {states : List Tern} → ArePartsOf raw parts w → raw' ≡ raw
    → IsCircuit raw' → states ≡ w.start → BeginsRun raw' w states parts.rows.now parts.frames
ready_is {raw} {raw'} {parts} {w} {states} h same circuit is =
    subst (λ (r : Raw). BeginsRun r w states parts.rows.now parts.frames) (sym same)
    (record {
      circuit = subst IsCircuit same circuit;
      latches = h.latches;
      states_are = is;
      rows_are = h.rows_are;
      frames_are = h.frames_are;
    })

-- the same of the parts of a witness that is admitted
pub ready_of : {raw raw' : Raw} {parts : WitnessParts} {w : Witness} {states : List Tern} → ArePartsOf raw parts w → IsAdmitted raw w
    → raw' ≡ raw → IsCircuit raw' → states ≡ w.start → IsReady raw' w parts states
ready_of {parts} {w} {states} h admitted same circuit is =
    subst (λ (r : Raw). IsReady r w parts states) (sym same)
    (record { circuit = subst IsCircuit same circuit; parts_are = h; admitted = admitted; states_are = is })

pub begins_judged : {raw : Raw} {w : Witness} {parts : WitnessParts} {states : List Tern} → IsReady raw w parts states
    → BeginsRun raw w states parts.rows.now parts.frames
begins_judged h = ready_is h.parts_are refl h.circuit h.states_are

-- the text is refused, or no memory was found
pub not_replayed : {X A : Type 0} (is_text : RunText) (raw : Raw) (text : List ℕ) (written : X → Option (List ℕ)) (failures : X → ℕ)
    (old new : X) (why : WitnessFault) (r : Result A ReplayFault) → IsErrAnd r (λ f. f ≡ fault.Witness why)
    → HasWitnessFault raw text why → new ≡ old → Replays is_text raw text (flow written failures old new) r
not_replayed {A} is_text raw text written failures old new why (Err f) is h same =
    subst (λ (f : ReplayFault). Replays {A = A} is_text raw text (flow written failures old new) (Err f)) (sym is) (h, same)
not_replayed is_text raw text written failures old new why (Ok x) is h same = absurd is

reports : (is_text : RunText) {raw : Raw} {text : List ℕ} (w : Witness) → SpellsWitness raw text w → IsAdmitted raw w
    → (reported : List ℕ) → is_text raw w.start w.rows reported → ReportsRun is_text raw text reported
reports is_text w spells admitted reported is = record { witness = w; spells = spells; admitted = admitted; reported_is = is }

-- the same run, of a circuit by another name
same_circuit : {X E : Type 0} (is_text : RunText) {raw raw' : Raw} {w : Witness} {written : X → Option (List ℕ)}
    {failures : X → ℕ} {old new : X} {r : Result (Unit {0}) E} → raw' ≡ raw
    → WritesRun is_text raw' w written failures old new r → WritesRun is_text raw w written failures old new r
same_circuit is_text {w} {written} {failures} {old} {new} {r} same h =
    subst (λ (c : Raw). WritesRun is_text c w written failures old new r) same h

module _ {X A E : Type 0} (is_text : RunText) {raw raw' : Raw} {text : List ℕ} {written : X → Option (List ℕ)} {failures : X → ℕ}
    {old new : X} (w : Witness) (spells : SpellsWitness raw text w) (admitted : IsAdmitted raw w) (same : raw' ≡ raw) where
  pub replayed : {x : Unit {0}} (a : A) → WritesRun {E = E} is_text raw' w written failures old new (Ok x)
      → Replays is_text raw text (flow written failures old new) (Ok a)
  replayed a run =
      let h = same_circuit is_text same run in
      (h.reported, reports is_text w spells admitted h.reported h.reported_is, h.writes.ok, omega (arith, h.writes.count))

  pub replay_failed : {e : E} (r : Result A ReplayFault) → IsErrAnd r (λ f. f ≡ fault.Io)
      → WritesRun is_text raw' w written failures old new (Err e) → Replays is_text raw text (flow written failures old new) r
  replay_failed (Err f) is run =
      let h = same_circuit is_text same run in
      let (done, begins, wrote) = h.writes.err in
      subst (λ (f : ReplayFault). Replays {A = A} is_text raw text (flow written failures old new) (Err f)) (sym is)
      (h.reported, done, reports is_text w spells admitted h.reported h.reported_is, begins, wrote, h.writes.count)
  replay_failed (Ok x) is run = absurd is
