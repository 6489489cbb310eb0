-- A model of the formula over the part of a circuit names a run of the circuit.
use Rattle.std.proofs.Common.{◌≡◌, ◌≢◌, ◌⊎◌, inl, inr, ℕ, ◌<◌, Bool, true, false, List, [], ◌∷◌, length, drop, map, replicate}
use Rattle.std.proofs.Common.{All, Some, slice_get, get_or, refl, sym, ◌∙◌, ap, ap₂, subst, arith, length-drop}
use Rattle.std.specs.List.{AllZip}
use Rattle.std.proofs.lemmas.List.{length-map, length-take-le}
use Rattle.std.proofs.lemmas.List.Elements.{All-cons, All-head, All-nil, All-tail}
use Rattle.std.proofs.lemmas.Option.{slice_get-get_or, slice_get_within}
use Rattle.std.proofs.lemmas.Slice.Zip.{AllZip-long}
use Rattle.aig_parts.specs.declared.raw.Raw.{Raw}
use Rattle.aig_parts.specs.declared.ternary.Tern.{Tern}
use Rattle.aig_parts.specs.declared.ternary.Tern.TheVariants.{X}
use Rattle.aig_base.specs.Circuit.{IsCircuit}
use Rattle.aig_base.specs.Completion.{Completes, IsCompletion}
use Rattle.aig_base.specs.Order.{IsCanonicalOrder}
use Rattle.aig_base.specs.Part.{TestsRead, input_marks, latch_marks, narrowed_rows, narrowed_start, part, picked, spread}
use Rattle.aig_base.specs.Runs.{IsAllowed, ReachesBad, ReachesProperty}
use Rattle.aig_base.specs.Value.{Fits, start_of}
use Rattle.aig_base.proofs.values.AllowedStarts.{allowed_still}
use Rattle.aig_base.proofs.values.Refined.{AllZip-slice_get}
use Rattle.aig_cnf.specs.Formula.{formula_of}
use Rattle.aig_cnf.specs.Query.{from_any_state, induction, step, within}
use Rattle.aig_cnf.specs.declared.query.Goal.TheVariants as asked
use Rattle.aig_sat.specs.checker.Clause.{Satisfies}
use Rattle.aig_unroll.specs.FrameLiteral.{input_count}
use Rattle.aig_refute.specs.Models.{AreKnown, values_of}
use Rattle.aig_refute.specs.PartialModels.{NamesRun, SatisfiesInPart, inputs_in, named_rows, named_start}
use Rattle.aig_refute.specs.Satisfiable.{BreaksStep, DisprovesInduction, IsKnownRun, step_rows, step_start}
use Rattle.aig_refute.specs.SpreadRun.{CompletesSpread, NamesSpreadRun, spread_rows, spread_start}
use Rattle.aig_refute.proofs.BadFormula.{wide_values}
use Rattle.aig_refute.proofs.NamedInduction.{disproves}
use Rattle.aig_cnf.proofs.PartCircuit.{part_circuit}
use Rattle.aig_refute.proofs.PartRuns.{breaks_with, first_allowed, first_long, latches_long, rows_few, start_few, unread_long}
use Rattle.aig_refute.proofs.PartRuns.{wide_allowed}
use Rattle.aig_refute.proofs.PartValues.{reaches_in_whole}
use Rattle.aig_refute.proofs.PartialModels.{names_run, names_whole_run}
use Rattle.aig_refute.proofs.SpreadRuns.{spread_alike, spread_fits}
use Rattle.aig_refute.proofs.StepFormula.{names_broken_step}
use Rattle.aig_refute.proofs.UnrolledRows.{run_in}

-- ---- runs with 0 or 1 in place of each x

completed_known : (row row' : List Tern) → AllZip Completes row row' → AreKnown row'
completed_known [] [] all = All-nil (λ (w : Tern). w ≢ X)
completed_known [] (w' ∷ row') all = absurd all
completed_known (w ∷ row) [] all = absurd all
completed_known (w ∷ row) (w' ∷ row') all =
    All-cons (λ (v : Tern). v ≢ X) w' row' all.0.0 (completed_known row row' all.1)

completed_rows_known : (rows rows' : List (List Tern)) → AllZip (AllZip Completes) rows rows' → All AreKnown rows'
completed_rows_known [] [] all = All-nil AreKnown
completed_rows_known [] (r' ∷ rows') all = absurd all
completed_rows_known (r ∷ rows) [] all = absurd all
completed_rows_known (r ∷ rows) (r' ∷ rows') all =
    All-cons AreKnown r' rows' (completed_known r r' all.0) (completed_rows_known rows rows' all.1)

completed_wide : (n : ℕ) (rows rows' : List (List Tern)) → AllZip (AllZip Completes) rows rows'
    → All (λ (r : List Tern). length r ≡ n) rows → All (λ (r : List Tern). length r ≡ n) rows'
completed_wide n [] [] all wide = wide
completed_wide n [] (r' ∷ rows') all wide = absurd all
completed_wide n (r ∷ rows) [] all wide = absurd all
completed_wide n (r ∷ rows) (r' ∷ rows') all wide =
    All-cons (λ (s : List Tern). length s ≡ n) r' rows'
    (AllZip-long Completes r r' all.0 ∙ All-head (λ (s : List Tern). length s ≡ n) r rows wide)
    (completed_wide n rows rows' all.1 (All-tail (λ (s : List Tern). length s ≡ n) r rows wide))

-- what is known stays
completed_back : (bs : List Bool) (others few wide : List Tern) → length others ≡ length bs → length few ≡ length (picked bs others)
    → AreKnown few → AllZip Completes (spread bs others few) wide → picked bs wide ≡ few
unfolding picked spread
completed_back [] others [] wide e f known all = refl
completed_back [] others (x ∷ few) wide e f known all = absurd (omega (arith, f))
completed_back (b ∷ bs) [] few wide e f known all = absurd (omega (arith, e))
completed_back (b ∷ bs) (y ∷ others) few [] e f known all = absurd (nothing b few all)
  where
    nothing : (c : Bool) (xs : List Tern) → AllZip Completes (spread (c ∷ bs) (y ∷ others) xs) [] → ⊥
    nothing c [] h = h
    nothing true (x ∷ xs) h = h
    nothing false (x ∷ xs) h = h
completed_back (true ∷ bs) (y ∷ others) [] (z ∷ wide) e f known all = absurd (omega (arith, f))
completed_back (false ∷ bs) (y ∷ others) [] (z ∷ wide) e f known all =
    completed_back bs others [] wide (omega (arith, e)) f known all.1
completed_back (true ∷ bs) (y ∷ others) (x ∷ few) (z ∷ wide) e f known all =
    ap₂ (λ (u : Tern) (us : List Tern). u ∷ us) (all.0.1 (All-head (λ (w : Tern). w ≢ X) x few known))
    (completed_back bs others few wide (omega (arith, e)) (omega (arith, f)) (All-tail (λ (w : Tern). w ≢ X) x few known) all.1)
completed_back (false ∷ bs) (y ∷ others) (x ∷ few) (z ∷ wide) e f known all =
    completed_back bs others (x ∷ few) wide (omega (arith, e)) f known all.1

completed_rows_back : (bs : List Bool) (others : List Tern) (fews wides : List (List Tern)) → length others ≡ length bs
    → All (λ (r : List Tern). length r ≡ length (picked bs others)) fews → All AreKnown fews
    → AllZip (AllZip Completes) (map (λ (r : List Tern). spread bs others r) fews) wides
    → map (λ (r : List Tern). picked bs r) wides ≡ fews
completed_rows_back bs others [] [] e long known all = refl
completed_rows_back bs others [] (z ∷ wides) e long known all = absurd all
completed_rows_back bs others (r ∷ fews) [] e long known all = absurd all
completed_rows_back bs others (r ∷ fews) (z ∷ wides) e long known all =
    ap₂ (λ (s : List Tern) (ss : List (List Tern)). s ∷ ss)
    (completed_back bs others r z e (All-head (λ (s : List Tern). length s ≡ length (picked bs others)) r fews long)
    (All-head AreKnown r fews known) all.0)
    (completed_rows_back bs others fews wides e (All-tail (λ (s : List Tern). length s ≡ length (picked bs others)) r fews long)
    (All-tail AreKnown r fews known) all.1)

completed_allowed : (raw : Raw) → IsCircuit raw → (start start' : List Tern) → length start ≡ length raw.latches
    → AllZip Completes start start' → IsAllowed raw start → IsAllowed raw start'
completed_allowed raw circuit start start' long all allowed p x b at is =
    let lt = slice_get_within raw.latches p x at in
    let a = get_or start p X in
    let here : slice_get start p ≡ Some a = slice_get-get_or start p X (omega (arith, lt, long)) in
    let (b', is', by) = AllZip-slice_get Completes start start' p a all here in
    let same : b' ≡ b = (let e : Some b' ≡ Some b = sym is' ∙ is in cc) in
    allowed_still raw circuit.sound p x at a b (subst (λ (c : Tern). Completes a c) same by).1 (allowed p x a at here)

-- ---- models

module _ (raw : Raw) (circuit : IsCircuit raw) (p bad : ℕ) (test : ℕ → Bool) (is : slice_get raw.bad p ≡ Some bad)
    (exact : TestsRead raw bad test) where
  abbrev small : Raw
  small = part raw bad test

  small_circuit : IsCircuit small
  small_circuit = part_circuit raw bad test exact circuit p is

  -- ---- that name a run which reaches the property

  module _ (order : List ℕ) (canonical : IsCanonicalOrder small order) (k : ℕ) (values : List Tern) where
    spread_run : length (inputs_in small k values) ≡ input_count small k → NamesRun small k 0 values
        → NamesSpreadRun raw k p bad test values
    spread_run wide (t, reaches) =
        let run = run_in small k (inputs_in small k values) wide in (
          t,
          (spread_alike raw bad test exact (named_start small k values) (named_rows small k values) circuit p is asked.Within run.fits t).0
              reaches,
        )

    pub spread_named : input_count small k < length values → SatisfiesInPart values (formula_of small order (within k 0)).clauses
        → NamesSpreadRun raw k p bad test values
    spread_named enough h =
        spread_run (length-take-le (input_count small k) (drop 1 values) (omega (arith, length-drop 1 values, enough)))
        (names_run small small_circuit order canonical k values enough 0 (omega arith) h)

    pub spread_whole : (whole : ℕ → Bool) → Satisfies whole (formula_of small order (within k 0)).clauses
        → inputs_in small k values ≡ values_of small k whole → NamesSpreadRun raw k p bad test values
    spread_whole whole h same =
        spread_run (ap (λ (row : List Tern). length row) same ∙ wide_values small small_circuit order canonical k whole)
        (names_whole_run small small_circuit order canonical k 0 values whole (omega arith) h same)

  -- ---- that name a run for a step or an induction

  module _ (few : List Tern) (fews : List (List Tern)) (fits : Fits small few fews) (known : IsKnownRun few fews)
      (start : List Tern) (rows : List (List Tern))
      (completes : IsCompletion (spread_start test raw few) (spread_rows test raw fews) start rows) where
    wide_fits : Fits raw (spread_start test raw few) (spread_rows test raw fews)
    wide_fits = spread_fits raw bad test exact few fews fits

    whole_fits : Fits raw start rows
    whole_fits = record {
      latches = AllZip-long Completes (spread_start test raw few) start completes.0 ∙ wide_fits.latches;
      inputs = completed_wide (length raw.inputs) (spread_rows test raw fews) rows completes.1 wide_fits.inputs;
    }

    whole_known : IsKnownRun start rows
    whole_known = record {
      start_known = completed_known (spread_start test raw few) start completes.0;
      rows_known = completed_rows_known (spread_rows test raw fews) rows completes.1;
    }

    start_is : narrowed_start test raw start ≡ few
    start_is = completed_back (latch_marks test raw) (start_of raw) few start
        (first_long raw bad test exact ∙ sym (latches_long raw bad test exact))
        (start_few raw bad test exact (start_of raw) (first_long raw bad test exact) X few fews fits) known.start_known completes.0

    rows_are : narrowed_rows test raw rows ≡ fews
    rows_are =
        completed_rows_back (input_marks test raw) (replicate (length raw.inputs) X) fews rows
        (unread_long raw bad test exact (start_of raw) (first_long raw bad test exact) X few fews fits)
        (rows_few raw bad test exact (start_of raw) (first_long raw bad test exact) X few fews fits) known.rows_known completes.1

    frames_are : length rows ≡ length fews
    frames_are = sym (length-map rows (λ (r : List Tern). picked (input_marks test raw) r)) ∙ ap (λ (rs : List (List Tern)). length rs) rows_are

    whole_breaks : (k : ℕ) → BreaksStep small k 0 few fews → BreaksStep raw k p start rows
    whole_breaks k h =
        breaks_with raw bad test exact p is k start rows whole_fits whole_known
        (subst (λ (s : List Tern). BreaksStep small k 0 s (narrowed_rows test raw rows)) (sym start_is)
        (subst (λ (rs : List (List Tern)). BreaksStep small k 0 few rs) (sym rows_are) h))

    whole_reaches : (t : ℕ) → ReachesProperty small few fews t 0 → ReachesProperty raw start rows t p
    whole_reaches t (_, allowed, lt, (b, at, reaches)) = (
      whole_fits,
      completed_allowed raw circuit (spread_start test raw few) start wide_fits.latches completes.0
          (wide_allowed raw bad test exact (start_of raw) (first_long raw bad test exact) X few fews fits
          (first_allowed raw bad test exact) allowed),
      omega (arith, lt, frames_are),
      (
        bad,
        is,
        reaches_in_whole raw bad test exact start rows t
            (subst (λ (s : List Tern). ReachesBad small s (narrowed_rows test raw rows) t bad) (sym start_is)
            (subst (λ (rs : List (List Tern)). ReachesBad small few rs t bad) (sym rows_are)
            (subst (λ n. ReachesBad small few fews t n) (let e : Some b ≡ Some bad = sym at in let same : b ≡ bad = cc in same)
            reaches))),
      ),
    )

    whole_disproves : (k : ℕ) → DisprovesInduction small k 0 few fews → DisprovesInduction raw k p start rows
    whole_disproves k h = record { known = whole_known; frames = frames_are ∙ h.frames; fails = go h.fails }
      where
        go : ((t : ℕ) × (t < k) × ReachesProperty small few fews t 0) ⊎ BreaksStep small k 0 few fews
            → ((t : ℕ) × (t < k) × ReachesProperty raw start rows t p) ⊎ BreaksStep raw k p start rows
        go (inl (t, below, reaches)) = inl (t, below, whole_reaches t reaches)
        go (inr breaks) = inr (whole_breaks k breaks)

  disproof_fits : (k : ℕ) (few : List Tern) (fews : List (List Tern)) → DisprovesInduction small k 0 few fews → Fits small few fews
  disproof_fits k few fews h = go h.fails
    where
      go : ((t : ℕ) × (t < k) × ReachesProperty small few fews t 0) ⊎ BreaksStep small k 0 few fews → Fits small few fews
      go (inl (t, below, (fits, allowed, lt, reached))) = fits
      go (inr breaks) = breaks.fits

  module _ (order : List ℕ) (canonical : IsCanonicalOrder (from_any_state small) order) (k : ℕ) (values : ℕ → Bool)
      (start : List Tern) (rows : List (List Tern)) (completes : CompletesSpread raw k bad test values start rows) where
    pub spread_step : Satisfies values (formula_of small order (step k 0)).clauses → BreaksStep raw k p start rows
    spread_step h =
        let breaks = names_broken_step small small_circuit order canonical k 0 (omega arith) values h in
        whole_breaks (step_start small k values) (step_rows small k values) breaks.fits breaks.known start rows completes k breaks

    pub spread_induction : Satisfies values (formula_of small order (induction k 0)).clauses → DisprovesInduction raw k p start rows
    spread_induction h =
        let disproof = disproves small small_circuit order canonical k 0 (omega arith) values h in
        whole_disproves (step_start small k values) (step_rows small k values)
        (disproof_fits k (step_start small k values) (step_rows small k values) disproof) disproof.known start rows completes k
        disproof
