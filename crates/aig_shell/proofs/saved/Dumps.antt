-- The dump of a run, whose circuit may have other resets.
use Rattle.std.proofs.Common.{◌≡◌, ℕ, zero, suc, List, [], ◌∷◌, ◌++◌, length, map, Option, Some, Ok, refl, sym, ap}
use Rattle.std.proofs.Common.{subst, ◌∙◌}
use Rattle.std.specs.List.{AllZip}
use Rattle.std.proofs.lemmas.List.{append-nil}
use Rattle.std.proofs.lemmas.Option.{same_Some}
use Rattle.std.proofs.lemmas.Slice.Zip.{AllZip-long}
use Rattle.aig_bytes.specs.Bytes.{before, after, IsAtEnd}
use Rattle.aig_parts.specs.declared.latch.Latch.{Latch}
use Rattle.aig_parts.specs.declared.raw.Raw.{Raw}
use Rattle.aig_parts.specs.declared.ternary.Tern.{Tern}
use Rattle.aig_base.specs.Value.{Value, start_of}
use Rattle.aig_names.specs.Header as dump
use Rattle.aig_base.specs.Resets.{IsSameLatch, HasOtherResets}
use Rattle.aig_base.proofs.values.Resets.{value_with}
use Rattle.aig_sim.specs.Dump.{closing, signals, IsFrameText, AreFrames, IsDump}
use Rattle.aig_sim.specs.Dumped.{Dumps}
use Rattle.aig_sim.specs.DumpHeader.{header}
use Rattle.aig_sim.specs.Simulated.{Streams}
use Rattle.aig_sim.specs.StimulusText.{SpellsRows}
use Rattle.aig_sim.proofs.OneText.{one_list_of_rows}

latch_literals : (xs ys : List Latch) → AllZip IsSameLatch xs ys → map (λ x. x.lit) ys ≡ map (λ x. x.lit) xs
latch_literals [] [] h = refl
latch_literals [] (y ∷ ys) h = absurd h
latch_literals (x ∷ xs) [] h = absurd h
latch_literals (x ∷ xs) (y ∷ ys) h =
    ap (λ (l : ℕ). l ∷ map (λ z. z.lit) ys) h.0.0 ∙ ap (λ (ls : List ℕ). x.lit ∷ ls) (latch_literals xs ys h.1)

module _ (raw other : Raw) (h : HasOtherResets raw other) where
  signals_same : signals other ≡ signals raw
  signals_same =
      λ i. h.inputs i ++ (latch_literals raw.latches other.latches h.latches i ++ (h.outputs i ++ (h.bad i ++ h.constraints i)))

  header_same : header other ≡ header raw
  unfolding header
  header_same =
      λ i. dump.header (h.symbols i) (record {
        inputs = length (h.inputs i);
        latches = AllZip-long IsSameLatch raw.latches other.latches h.latches i;
        outputs = length (h.outputs i);
        bad = length (h.bad i);
        constraints = length (h.constraints i);
      })

  module _ (start : List Tern) (rows : List (List Tern)) where
    values_with : (code : Tern → ℕ) (t : ℕ) (literals cs : List ℕ)
        → AllZip (λ l b. (w : Tern) × Value raw start rows t l w × (b ≡ code w)) literals cs
        → AllZip (λ l b. (w : Tern) × Value other start rows t l w × (b ≡ code w)) literals cs
    values_with code t [] [] v = tt
    values_with code t [] (c ∷ cs) v = absurd v
    values_with code t (l ∷ literals) [] v = absurd v
    values_with code t (l ∷ literals) (c ∷ cs) ((w, is, e), v) =
        ((w, value_with raw other h start rows is, e), values_with code t literals cs v)

    signals_with : (code : Tern → ℕ) (t : ℕ) (cs : List ℕ)
        → AllZip (λ l b. (w : Tern) × Value raw start rows t l w × (b ≡ code w)) (signals raw) cs
        → AllZip (λ l b. (w : Tern) × Value other start rows t l w × (b ≡ code w)) (signals other) cs
    signals_with code t cs v =
        subst (λ (ls : List ℕ). AllZip (λ l b. (w : Tern) × Value other start rows t l w × (b ≡ code w)) ls cs) (sym signals_same)
        (values_with code t (signals raw) cs v)

    frame_with : (t : ℕ) (text : List ℕ) → IsFrameText raw start rows t text → IsFrameText other start rows t text
    frame_with zero text (cs, v, e) = (cs, signals_with _ zero cs v, e)
    frame_with (suc t) text (bs, cs, u, v, e) = (bs, cs, signals_with _ t bs u, signals_with _ (suc t) cs v, e)

    frames_with : (n : ℕ) (text : List ℕ) → AreFrames raw start rows n text → AreFrames other start rows n text
    frames_with zero text e = e
    frames_with (suc t) text (old, frame, are, is, e) = (old, frame, frames_with t old are, frame_with t frame is, e)

    pub dump_with : (text : List ℕ) → IsDump raw start rows text → IsDump other start rows text
    dump_with text d = record {
      frames = d.frames;
      frames_are = frames_with (length rows) d.frames d.frames_are;
      text_is = d.text_is ∙ ap (λ (front : List ℕ). front ++ (d.frames ++ closing (length rows))) (sym header_same);
    }

-- a dump that read a text of rows to its end is the dump of these rows
pub dumped : (raw : Raw) (rows : List (List Tern)) (bytes left text : List ℕ) (old new : Streams) (written : Option (List ℕ)) (n : ℕ)
    → Dumps raw old new written (Some text) (Ok n) → SpellsRows (length raw.inputs) bytes rows → old.left ≡ Some bytes
    → new.left ≡ Some left → written ≡ Some [] → IsDump raw (start_of raw) rows text
dumped raw rows bytes left text old new written n d spelled begins ends nothing_yet =
    let (spells, at_end, is, count, none) = d.ended in
    let nothing : left ≡ [] = subst IsAtEnd ends at_end in
    let whole : bytes ≡ d.text = same_Some bytes d.text
    (sym begins ∙ d.read ∙ ap (before d.text) ends ∙ ap (λ (bs : List ℕ). Some (d.text ++ bs)) nothing ∙ ap Some (append-nil d.text)) in
    let same : d.rows ≡ rows = one_list_of_rows (length raw.inputs) d.text d.rows rows spells
    (subst (λ (bs : List ℕ). SpellsRows (length raw.inputs) bs rows) whole spelled) in
    subst (λ (rs : List (List Tern)). IsDump raw (start_of raw) rs text) same (record {
      frames = d.frames;
      frames_are = d.frames_are;
      text_is = same_Some text d.done (d.wrote ∙ ap (λ (w : Option (List ℕ)). after w d.done) nothing_yet) ∙ is;
    })
