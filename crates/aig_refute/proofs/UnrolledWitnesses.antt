-- The witness that is in a row of an unrolled circuit.
use Rattle.std.proofs.Common.{◌≡◌, ◌≢◌, ◌↔◌, ℕ, ◌+◌, ◌-◌, ◌<◌, ◌≤◌, List, [], ◌∷◌, ◌++◌, length, take, replicate, All}
use Rattle.std.proofs.Common.{Some, slice_get, get_or, refl, sym, ◌∙◌, ap, subst, arith, length-append}
use Rattle.std.proofs.lemmas.List.{length-take-le, take_at, length-replicate, get_or-replicate, get_or-take}
use Rattle.std.proofs.lemmas.List.Elements.{All-append, All-replicate}
use Rattle.std.proofs.lemmas.Option.{slice_get-get_or}
use Rattle.aig_parts.specs.declared.raw.Raw.{Raw}
use Rattle.aig_parts.specs.Limits.{frame_limit}
use Rattle.aig_parts.specs.declared.ternary.Tern.{Tern}
use Rattle.aig_parts.specs.declared.ternary.Tern.TheVariants.{One, X}
use Rattle.aig_base.specs.Circuit.{IsCircuit}
use Rattle.aig_base.specs.Order.{IsCanonicalOrder}
use Rattle.aig_base.specs.Runs.{IsAllowed, ReachesBad}
use Rattle.aig_base.specs.Value.{Value, Fits}
use Rattle.aig_sim.specs.declared.witness.verdict.Verdict.{Verdict}
use Rattle.aig_sim.specs.declared.witness.verdict.Verdict.TheVariants as verdict
use Rattle.aig_sim.specs.declared.witness.fault.WitnessFault.{WitnessFault}
use Rattle.aig_sim.specs.declared.witness.fault.WitnessFault.TheVariants as fault
use Rattle.aig_sim.specs.Verdict.{IsVerdict}
use Rattle.aig_sim.specs.WitnessText.{Witness, IsDecimal, SpellsWitness, HasWitnessFault, witness_text}
use Rattle.aig_sim.proofs.WitnessLemmas.{one_witness}
use Rattle.aig_unroll.specs.FrameLiteral.{input_count}
use Rattle.aig_unroll.specs.Unrolled.{unrolled}
use Rattle.aig_unroll.specs.UnrolledValues.{unrolled_row}
use Rattle.aig_unroll.proofs.GuardedValues.{all_bad}
use Rattle.aig_refute.specs.Models.{AreKnown}
use Rattle.aig_refute.specs.Satisfiable.{IsKnownRun}
use Rattle.aig_refute.specs.UnrolledWitness.{rows_in, start_in, witness_in, MakesBad, ReachesInRow, ConfirmsRow}
use Rattle.aig_refute.specs.UnrolledWitness.{ChecksRow, IsCheckedConfirmed, IsRun, IsConfirmedWithin, IsInRow}
use Rattle.aig_refute.proofs.Reached.{confirms_reached, allowed_where_none}
use Rattle.aig_refute.proofs.UnrolledRows.{run_in, row_in, row_known, row_wide, row_of_run}

module _ (raw : Raw) (circuit : IsCircuit raw) (order : List ℕ) (canonical : IsCanonicalOrder raw order) where
  -- the row of a run makes a bad literal 1 exactly where the run reaches it
  made_bad : (start : List Tern) (rows : List (List Tern)) → Fits raw start rows → IsAllowed raw start
      → (t p b : ℕ) → t < length rows → slice_get raw.bad p ≡ Some b
      → MakesBad raw order (length rows) (unrolled_row raw start rows) t p ↔ ReachesBad raw start rows t b
  made_bad start rows fits allowed t p b lt at =
      let (g, here, is) = all_bad raw circuit order canonical start rows fits allowed t p b lt at in (
        λ (h, there, v).
            let same : h ≡ g = (let e : Some h ≡ Some g = sym there ∙ here in cc) in
            (is One).0 (subst (λ (n : ℕ). Value (unrolled raw order (length rows)) []
            (unrolled_row raw start rows ∷ []) 0 n One) same v),
        λ r. (g, here, (is One).1 r),
      )

  -- the same of a row by its run
  pub made_bad_in : (k : ℕ) (row start : List Tern) (rows : List (List Tern)) → length rows ≡ k
      → unrolled_row raw start rows ≡ row → Fits raw start rows → IsAllowed raw start
      → (t p b : ℕ) → t < k → slice_get raw.bad p ≡ Some b
      → MakesBad raw order k row t p ↔ ReachesBad raw start rows t b
  made_bad_in k row start rows frames is fits allowed t p b lt at =
      subst (λ (r : List Tern). MakesBad raw order k r t p ↔ ReachesBad raw start rows t b) is
      (subst (λ (n : ℕ). MakesBad raw order n (unrolled_row raw start rows) t p ↔ ReachesBad raw start rows t b) frames
      (made_bad start rows fits allowed t p b (omega (arith, frames, lt)) at))

  pub reaches_in_row : (k : ℕ) (row : List Tern) → length row ≡ input_count raw k → ReachesInRow raw order k row
  reaches_in_row k row width t p b lt at =
      let run = run_in raw k row width in
      made_bad_in k row (start_in raw k row) (rows_in raw k row) run.frames (row_in raw k row width).row_is run.fits
      run.allowed t p b lt at

  pub confirms_row : (k : ℕ) (row : List Tern) → length row ≡ input_count raw k → ConfirmsRow raw order k row
  confirms_row k row width t p lt below =
      let run = run_in raw k row width in
      let b = get_or raw.bad p 0 in
      let at : slice_get raw.bad p ≡ Some b = slice_get-get_or raw.bad p 0 below in
      let reaches = reaches_in_row k row width t p b lt at in
      let confirms = confirms_reached raw circuit (start_in raw k row) (rows_in raw k row) run.fits run.allowed t p b
      (omega (arith, run.frames, lt)) at in
      (λ h. confirms.0 (reaches.0 h), λ h. reaches.1 (confirms.1 h))

  -- ---- a confirmed witness, filled up to k frames

  module _ (k : ℕ) (w : Witness) (h : IsConfirmedWithin raw k w) (filler : Tern) where
    filler_row : List Tern
    filler_row = replicate (length raw.inputs) filler

    more : List (List Tern)
    more = replicate (k - length w.rows) filler_row

    filled_up : List (List Tern)
    filled_up = w.rows ++ more

    wide_more : All (λ row. length row ≡ length raw.inputs) more
    unfolding more filler_row
    wide_more n d below =
        ap length (get_or-replicate (k - length w.rows) n (replicate (length raw.inputs) filler) d
        (omega (arith, below, length-replicate (k - length w.rows) (replicate (length raw.inputs) filler))))
        ∙ length-replicate (length raw.inputs) filler

    run : IsRun raw k w.start filled_up
    unfolding filled_up more
    run = record {
      frames = length-append w.rows more
          ∙ ap (λ n. length w.rows + n) (length-replicate (k - length w.rows) filler_row) ∙ omega (arith, h.frames);
      fits = record {
        latches = h.fits.latches;
        inputs = All-append (λ (row : List Tern). length row ≡ length raw.inputs) w.rows more h.fits.inputs wide_more;
      };
      allowed = allowed_where_none raw w.start (λ p k. h.confirmed.first (verdict.Initial p) (omega arith) k);
    }

    row : List Tern
    row = unrolled_row raw w.start filled_up

    some_frame : 0 < length w.rows
    some_frame = go w.rows h.some
      where
        go : (rows : List (List Tern)) → rows ≢ [] → 0 < length rows
        go [] some = absurd (some refl)
        go (r ∷ rows) some = omega arith

    same_rows : take (length w.rows - 1 + 1) (rows_in raw k row) ≡ w.rows
    unfolding row filled_up
    same_rows =
        ap (take (length w.rows - 1 + 1)) (row_of_run raw k w.start filled_up run).rows_are
        ∙ take_at w.rows more (length w.rows - 1 + 1) (omega (arith, some_frame))

    same_witness : witness_in raw k (length w.rows - 1) w.property row ≡ w
    unfolding row
    same_witness =
        ap (λ (s : List Tern). record {
          property = w.property;
          start = s;
          rows = take (length w.rows - 1 + 1) (rows_in raw k row);
        }) (row_of_run raw k w.start filled_up run).start_is
        ∙ ap (λ (rs : List (List Tern)). record { property = w.property; start = w.start; rows = rs }) same_rows

    pub in_filled_row : IsInRow raw order k w
    unfolding row
    in_filled_row =
        let width : length row ≡ input_count raw k = row_wide raw k w.start filled_up run in
        let verdict_is : IsVerdict raw (witness_in raw k (length w.rows - 1) w.property row) verdict.Confirmed =
        subst (λ (v : Witness). IsVerdict raw v verdict.Confirmed) (sym same_witness) h.confirmed in (
          row,
          width,
          same_witness,
          (confirms_row k row width (length w.rows - 1) w.property (omega (arith, some_frame, h.frames)) h.property).1
              verdict_is,
        )

    -- the row has no x where neither the witness nor the filler has
    pub filled_row_known : filler ≢ X → IsKnownRun w.start w.rows → AreKnown in_filled_row.0
    unfolding in_filled_row row filled_up more filler_row
    filled_row_known known run_known =
        row_known raw w.start (w.rows ++ replicate (k - length w.rows) (replicate (length raw.inputs) filler)) (record {
          start_known = run_known.start_known;
          rows_known = All-append AreKnown w.rows (replicate (k - length w.rows) (replicate (length raw.inputs) filler))
              run_known.rows_known
              (All-replicate AreKnown (k - length w.rows) (replicate (length raw.inputs) filler)
              (All-replicate (λ (v : Tern). v ≢ X) (length raw.inputs) filler known));
        })

  pub in_row : (k : ℕ) (w : Witness) → IsConfirmedWithin raw k w → IsInRow raw order k w
  in_row k w h = in_filled_row k w h X

-- a text of the witness that is in a row
spells_in_row : (raw : Raw) (k t p : ℕ) (row : List Tern) (digits : List ℕ) → length row ≡ input_count raw k → t < k
    → IsDecimal digits p
    → SpellsWitness raw (witness_text digits (start_in raw k row) (witness_in raw k t p row).rows)
    (witness_in raw k t p row)
spells_in_row raw k t p row digits width lt decimal =
    let run = run_in raw k row width in
    let short : length (take (t + 1) (rows_in raw k row)) ≡ t + 1 =
    length-take-le (t + 1) (rows_in raw k row) (omega (arith, run.frames, lt)) in
    record {
      start_is = run.fits.latches;
      widths = λ n d below.
          ap length (get_or-take (t + 1) (rows_in raw k row) n d (omega (arith, short, below)))
          ∙ run.fits.inputs n d (omega (arith, run.frames, short, below, lt));
      some = λ e. omega (arith, short, ap length e);
      digits = digits;
      position = decimal;
      text_is = refl;
    }

-- a confirmed witness has no other verdict
one_verdict : (raw : Raw) (w : Witness) (v : Verdict) → IsVerdict raw w verdict.Confirmed → IsVerdict raw w v
    → v ≡ verdict.Confirmed
one_verdict raw w (verdict.Initial p) h k = absurd (h.first (verdict.Initial p) (omega arith) k.applies)
one_verdict raw w (verdict.Constraint t p) h k = absurd (h.first (verdict.Constraint t p) (omega arith) k.applies)
one_verdict raw w verdict.NotBad h k = absurd (h.first verdict.NotBad (omega arith) k.applies)
one_verdict raw w verdict.Confirmed h k = refl

-- what a check answers for a text of a confirmed witness
checked : (raw : Raw) (w : Witness) (text : List ℕ) → SpellsWitness raw text w → w.property < length raw.bad
    → length w.rows ≤ frame_limit → IsVerdict raw w verdict.Confirmed → IsCheckedConfirmed raw w text
checked raw w text spells property frames confirmed = record {
  spelled = spells;
  verdicts = λ u v h k.
      one_verdict raw w v confirmed
      (subst (λ (x : Witness). IsVerdict raw x v) (one_witness raw text u w h spells) k);
  faults = none;
}
  where
    none : (f : WitnessFault) → HasWitnessFault raw text f → f ≡ fault.Memory
    none fault.Text h = absurd (h w spells)
    none fault.Property (u, h, le) =
        let e = ap (λ (x : Witness). x.property) (one_witness raw text u w h spells) in absurd (omega arith)
    none fault.Limit (u, h, lt, over) =
        let e = ap (λ (x : Witness). length x.rows) (one_witness raw text u w h spells) in absurd (omega arith)
    none fault.Memory h = refl

pub checks_row : (raw : Raw) → IsCircuit raw → (order : List ℕ) → IsCanonicalOrder raw order → (k : ℕ)
    (row : List Tern) → length row ≡ input_count raw k → k ≤ frame_limit → ChecksRow raw order k row
checks_row raw circuit order canonical k row width limit t p digits lt below makes decimal =
    let run = run_in raw k row width in
    let short : length (take (t + 1) (rows_in raw k row)) ≡ t + 1 =
    length-take-le (t + 1) (rows_in raw k row) (omega (arith, run.frames, lt)) in
    checked raw (witness_in raw k t p row)
    (witness_text digits (start_in raw k row) (witness_in raw k t p row).rows)
    (spells_in_row raw k t p row digits width lt decimal) below (omega (arith, short, lt, limit))
    ((confirms_row raw circuit order canonical k row width t p lt below).0 makes)
