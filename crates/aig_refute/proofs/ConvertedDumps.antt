-- A renumbered circuit has the dumps of the circuit.
use Rattle.std.proofs.Common.{◌≡◌, ◌↔◌, ℕ, zero, suc, ◌<◌, ◌≤◌, List, ◌++◌, length, map, All, sym, ◌∙◌, ap, subst}
use Rattle.std.proofs.Common.{arith}
use Rattle.std.proofs.lemmas.List.{length-map, map-append}
use Rattle.std.proofs.lemmas.List.Elements.{All-append}
use Rattle.aig_parts.specs.declared.raw.Raw.{Raw}
use Rattle.aig_parts.specs.declared.ternary.Tern.{Tern}
use Rattle.aig_parts.specs.Literal.{variable}
use Rattle.aig_base.specs.Circuit.{IsCircuit}
use Rattle.aig_base.specs.Order.{IsCanonicalOrder}
use Rattle.aig_base.specs.Renumbered.{renumbered, renumbered_latch, renumbered_literal}
use Rattle.aig_base.specs.Sections.{IsDefined}
use Rattle.aig_base.specs.Value.{Fits}
use Rattle.aig_base.proofs.circuits.EachUse.{each_use}
use Rattle.aig_names.specs.declared.header.SignalCounts.{SignalCounts}
use Rattle.aig_names.specs.Header as dump
use Rattle.aig_sim.specs.Dump.{signals, IsFrameText, AreFrames, closing}
use Rattle.aig_sim.specs.DumpHeader.{header, signal_counts}
use Rattle.aig_values.specs.Trace.{AreValues}
use Rattle.aig_refute.specs.Conversion.{HaveSameDumps}
use Rattle.aig_refute.proofs.ConvertedTraces.{same_values, new_latches, inputs_defined, latches_defined}

-- sections have as many signals
counts_same : (raw : Raw) (order : List ℕ) → signal_counts (renumbered raw order) ≡ signal_counts raw
counts_same raw order =
    let f : ℕ → ℕ = renumbered_literal raw order in
    ap (λ (n : ℕ). counts n (length (map (renumbered_latch raw order) raw.latches)) (length (map f raw.outputs))
    (length (map f raw.bad)) (length (map f raw.constraints))) (length-map raw.inputs f)
    ∙ ap (λ (n : ℕ). counts (length raw.inputs) n (length (map f raw.outputs)) (length (map f raw.bad))
    (length (map f raw.constraints))) (length-map raw.latches (renumbered_latch raw order))
    ∙ ap (λ (n : ℕ). counts (length raw.inputs) (length raw.latches) n (length (map f raw.bad))
    (length (map f raw.constraints))) (length-map raw.outputs f)
    ∙ ap (λ (n : ℕ). counts (length raw.inputs) (length raw.latches) (length raw.outputs) n
    (length (map f raw.constraints))) (length-map raw.bad f)
    ∙ ap (λ (n : ℕ). counts (length raw.inputs) (length raw.latches) (length raw.outputs) (length raw.bad) n)
    (length-map raw.constraints f)
  where
    counts : (a b c d e : ℕ) → SignalCounts
    counts a b c d e = record { inputs = a; latches = b; outputs = c; bad = d; constraints = e }

header_same : (raw : Raw) (order : List ℕ) → header (renumbered raw order) ≡ header raw
unfolding header
header_same raw order = ap (dump.header raw.symbols) (counts_same raw order)

module _ (raw : Raw) (circuit : IsCircuit raw) (order : List ℕ) (canonical : IsCanonicalOrder raw order)
    (start : List Tern) (rows : List (List Tern)) (fits : Fits raw start rows) where
  -- the signals in order
  signals_same : signals (renumbered raw order) ≡ map (renumbered_literal raw order) (signals raw)
  signals_same =
      let f : ℕ → ℕ = renumbered_literal raw order in
      let lits : List ℕ = map (λ x. x.lit) raw.latches in
      ap (λ (ls : List ℕ). map f raw.inputs ++ (ls ++ (map f raw.outputs ++ (map f raw.bad ++ map f raw.constraints))))
      (new_latches raw order)
      ∙ sym (map-append f raw.inputs (lits ++ (raw.outputs ++ (raw.bad ++ raw.constraints)))
      ∙ ap (λ (ls : List ℕ). map f raw.inputs ++ ls) (map-append f lits (raw.outputs ++ (raw.bad ++ raw.constraints))
      ∙ ap (λ (ls : List ℕ). map f lits ++ ls) (map-append f raw.outputs (raw.bad ++ raw.constraints)
      ∙ ap (λ (ls : List ℕ). map f raw.outputs ++ ls) (map-append f raw.bad raw.constraints))))

  signals_defined : All (λ l. IsDefined raw (variable l)) (signals raw)
  signals_defined =
      let D : ℕ → Type 0 = λ l. IsDefined raw (variable l) in
      let uses = each_use D raw circuit.sound.defined in
      let lits : List ℕ = map (λ x. x.lit) raw.latches in
      All-append D raw.inputs (lits ++ (raw.outputs ++ (raw.bad ++ raw.constraints)))
      (inputs_defined raw circuit.sound)
      (All-append D lits (raw.outputs ++ (raw.bad ++ raw.constraints))
      (latches_defined raw circuit.sound)
      (All-append D raw.outputs (raw.bad ++ raw.constraints) uses.outputs
      (All-append D raw.bad raw.constraints uses.bad uses.constraints)))

  shown_same : (t : ℕ) (text : List ℕ) → t < length rows
      → AreValues raw start rows t (signals raw) text
      ↔ AreValues (renumbered raw order) start rows t (signals (renumbered raw order)) text
  shown_same t text lt =
      subst (λ (ls : List ℕ). AreValues raw start rows t (signals raw) text
      ↔ AreValues (renumbered raw order) start rows t ls text) (sym signals_same)
      (same_values raw circuit order canonical start rows fits t (signals raw) text lt signals_defined)

  frame_same : (t : ℕ) (text : List ℕ) → t < length rows
      → IsFrameText raw start rows t text ↔ IsFrameText (renumbered raw order) start rows t text
  frame_same zero text lt = (
    λ (cs, values, is). (cs, (shown_same 0 cs lt).0 values, is),
    λ (cs, values, is). (cs, (shown_same 0 cs lt).1 values, is),
  )
  frame_same (suc t) text lt = (
    λ (bs, cs, before, values, is).
        (bs, cs, (shown_same t bs (omega arith)).0 before, (shown_same (suc t) cs lt).0 values, is),
    λ (bs, cs, before, values, is).
        (bs, cs, (shown_same t bs (omega arith)).1 before, (shown_same (suc t) cs lt).1 values, is),
  )

  frames_same : (n : ℕ) (text : List ℕ) → n ≤ length rows
      → AreFrames raw start rows n text ↔ AreFrames (renumbered raw order) start rows n text
  frames_same zero text le = (λ h. h, λ h. h)
  frames_same (suc n) text le = (
    λ (before, frame, frames, is, text_is).
        (before, frame, (frames_same n before (omega arith)).0 frames, (frame_same n frame le).0 is, text_is),
    λ (before, frame, frames, is, text_is).
        (before, frame, (frames_same n before (omega arith)).1 frames, (frame_same n frame le).1 is, text_is),
  )

  pub same_dumps : HaveSameDumps raw (renumbered raw order) start rows
  same_dumps text = (
    λ h. record {
      frames = h.frames;
      frames_are = (frames_same (length rows) h.frames (omega arith)).0 h.frames_are;
      text_is = h.text_is
          ∙ ap (λ (b : List ℕ). b ++ (h.frames ++ closing (length rows))) (sym (header_same raw order));
    },
    λ h. record {
      frames = h.frames;
      frames_are = (frames_same (length rows) h.frames (omega arith)).1 h.frames_are;
      text_is = h.text_is ∙ ap (λ (b : List ℕ). b ++ (h.frames ++ closing (length rows))) (header_same raw order);
    },
  )
