-- A run of the part of a circuit is one of the circuit, with other values where nothing is read.
use Rattle.std.proofs.Common.{◌≡◌, ◌≢◌, ◌↔◌, inr, ℕ, ◌+◌, Bool, true, false, List, [], ◌∷◌, length, map, replicate}
use Rattle.std.proofs.Common.{Some, slice_get, option_map, All, refl, sym, ◌∙◌, ap, subst, arith}
use Rattle.std.proofs.lemmas.List.{get_or-replicate, length-map, length-replicate}
use Rattle.std.proofs.lemmas.List.Elements.{All-head, All-map, All-tail, All-weaker}
use Rattle.std.proofs.lemmas.Option.{slice_get-map}
use Rattle.aig_parts.specs.Literal.{variable}
use Rattle.aig_parts.specs.declared.latch.Latch.{Latch}
use Rattle.aig_parts.specs.declared.raw.Raw.{Raw}
use Rattle.aig_parts.specs.declared.ternary.Tern.{Tern}
use Rattle.aig_parts.specs.declared.ternary.Tern.TheVariants.{Zero, X}
use Rattle.aig_base.specs.Part.{TestsRead, input_marks, latch_marks, narrowed_rows, narrowed_start, part, picked, spread}
use Rattle.aig_base.specs.Runs.{Allows, IsAllowed, ReachesBad, ReachesProperty}
use Rattle.aig_base.specs.Value.{Fits, reset_value, start_of}
use Rattle.aig_refute.specs.Satisfiable.{BreaksStep, HasBrokenStep, IsKnownRun, IsReachedAt, IsReachedWithin}
use Rattle.aig_refute.specs.Models.{AreKnown}
use Rattle.aig_refute.specs.Unreachable.{IsUnreachable}
use Rattle.aig_cnf.proofs.PartReads.{marked_at}
use Rattle.aig_cnf.proofs.Picked.{All-picked, All-spread, length-picked, length-spread, picked_at, picked_spread, spread_other}
use Rattle.aig_refute.proofs.PartValues.{narrowed_allowed, narrowed_fits, reaches_in_part, reaches_in_whole}

rows_back : (bs : List Bool) (ys : List Tern) (rows : List (List Tern)) → length ys ≡ length bs
    → All (λ r. length r ≡ length (picked bs ys)) rows
    → map (λ r. picked bs r) (map (λ r. spread bs ys r) rows) ≡ rows
rows_back bs ys [] long wide = refl
rows_back bs ys (r ∷ rows) long wide =
    ap (λ (q : List Tern). q ∷ map (λ r. picked bs r) (map (λ r. spread bs ys r) rows))
    (picked_spread bs ys r long (All-head (λ (r : List Tern). length r ≡ length (picked bs ys)) r rows wide))
    ∙ ap (λ (qs : List (List Tern)). r ∷ qs)
    (rows_back bs ys rows long (All-tail (λ (r : List Tern). length r ≡ length (picked bs ys)) r rows wide))

All-replicate : {A : Type 0} (P : A → Type 0) (n : ℕ) (x : A) → P x → All P (replicate n x)
All-replicate P n x h k d lt = subst P (sym (get_or-replicate n k x d (omega (arith, lt, length-replicate n x)))) h

module _ (raw : Raw) (bad : ℕ) (test : ℕ → Bool) (exact : TestsRead raw bad test) where
  abbrev small : Raw
  small = part raw bad test

  abbrev at_latches : List Bool
  at_latches = latch_marks test raw

  abbrev at_inputs : List Bool
  at_inputs = input_marks test raw

  pub latches_long : length at_latches ≡ length raw.latches
  latches_long = length-map raw.latches (λ (x : Latch). test (variable x.lit))

  inputs_long : length at_inputs ≡ length raw.inputs
  inputs_long = length-map raw.inputs (λ (l : ℕ). test (variable l))

  module _ (others : List Tern) (long : length others ≡ length raw.latches) (d : Tern) (start : List Tern) (rows : List (List Tern))
      (fits : Fits small start rows) where
    abbrev pub wide_start : List Tern
    wide_start = spread at_latches others start

    abbrev pub unread : List Tern
    unread = replicate (length raw.inputs) d

    abbrev pub wide_rows : List (List Tern)
    wide_rows = map (λ r. spread at_inputs unread r) rows

    pub unread_long : length unread ≡ length at_inputs
    unread_long = length-replicate (length raw.inputs) d ∙ sym inputs_long

    pub start_few : length start ≡ length (picked at_latches others)
    start_few = fits.latches ∙ length-picked at_latches raw.latches others (sym latches_long) (long ∙ sym latches_long)

    pub rows_few : All (λ (r : List Tern). length r ≡ length (picked at_inputs unread)) rows
    rows_few =
        All-weaker (λ (r : List Tern). length r ≡ length small.inputs) (λ (r : List Tern). length r ≡ length (picked at_inputs unread))
        (λ r wide. wide ∙ length-picked at_inputs raw.inputs unread (sym inputs_long) unread_long) rows fits.inputs

    pub start_back : narrowed_start test raw wide_start ≡ start
    start_back = picked_spread at_latches others start (long ∙ sym latches_long) start_few

    pub rows_are_back : narrowed_rows test raw wide_rows ≡ rows
    rows_are_back = rows_back at_inputs unread rows unread_long rows_few

    pub wide_fits : Fits raw wide_start wide_rows
    wide_fits = record {
      latches = length-spread at_latches others start (long ∙ sym latches_long) ∙ latches_long;
      inputs = All-map (λ (r : List Tern). length r ≡ length raw.inputs) (λ (r : List Tern). spread at_inputs unread r) rows
          (λ i e lt. length-spread at_inputs unread _ unread_long ∙ inputs_long);
    }

    pub wide_reaches : (t : ℕ) → ReachesBad small start rows t bad → ReachesBad raw wide_start wide_rows t bad
    wide_reaches t h =
        reaches_in_whole raw bad test exact wide_start wide_rows t
        (subst (λ (s : List Tern). ReachesBad small s (narrowed_rows test raw wide_rows) t bad) (sym start_back)
        (subst (λ (rs : List (List Tern)). ReachesBad small start rs t bad) (sym rows_are_back) h))

    pub wide_not : (t : ℕ) → ReachesBad raw wide_start wide_rows t bad → ReachesBad small start rows t bad
    wide_not t h =
        subst (λ (rs : List (List Tern)). ReachesBad small start rs t bad) rows_are_back
        (subst (λ (s : List Tern). ReachesBad small s (narrowed_rows test raw wide_rows) t bad) start_back
        (reaches_in_part raw bad test exact wide_start wide_rows t h))

    pub wide_allowed : IsAllowed raw others → IsAllowed small start → IsAllowed raw wide_start
    wide_allowed right allowed p x w at is = go (test (variable x.lit)) refl
      where
        go : (b : Bool) → test (variable x.lit) ≡ b → Allows x w
        go true e =
            let (q, here, there) = picked_at at_latches raw.latches wide_start p x w
            (marked_at (λ (y : Latch). test (variable y.lit)) raw.latches p x at e) at is in
            allowed q x w here (ap (λ (ws : List Tern). slice_get ws q) (sym start_back) ∙ there)
        go false e =
            right p x w at (spread_other at_latches others start p w
            (slice_get-map (λ (y : Latch). test (variable y.lit)) raw.latches p
            ∙ ap (option_map (λ (y : Latch). test (variable y.lit))) at ∙ ap Some e) is)

    pub allowed_back : IsAllowed raw wide_start → IsAllowed small start
    allowed_back allowed =
        subst (λ (s : List Tern). IsAllowed small s) start_back (narrowed_allowed raw bad test exact wide_start wide_rows allowed)

    wide_known : AreKnown others → d ≢ X → IsKnownRun start rows → IsKnownRun wide_start wide_rows
    wide_known all not known = record {
      start_known = All-spread (λ w. w ≢ X) at_latches others start all known.start_known;
      rows_known = All-map AreKnown (λ (r : List Tern). spread at_inputs unread r) rows
          (λ i e lt. All-spread (λ w. w ≢ X) at_inputs unread _ (All-replicate (λ w. w ≢ X) (length raw.inputs) d not)
          (known.rows_known i e lt));
    }

  -- ---- what is reached

  pub first_long : length (start_of raw) ≡ length raw.latches
  first_long = length-map raw.latches (λ (x : Latch). reset_value x.reset)

  pub first_allowed : IsAllowed raw (start_of raw)
  first_allowed p x w at is =
      let same : Some w ≡ Some (reset_value x.reset) =
      sym is ∙ slice_get-map (λ (y : Latch). reset_value y.reset) raw.latches p
      ∙ ap (option_map (λ (y : Latch). reset_value y.reset)) at in
      inr (let value_is : w ≡ reset_value x.reset = cc in value_is)

  module _ (p : ℕ) (bad_is : slice_get raw.bad p ≡ Some bad) where
    narrowed_property : (start : List Tern) (rows : List (List Tern)) (t : ℕ) → ReachesProperty raw start rows t p
        → ReachesProperty small (narrowed_start test raw start) (narrowed_rows test raw rows) t 0
    narrowed_property start rows t (fits, allowed, lt, (b, at, reaches)) = (
      narrowed_fits raw bad test exact start rows fits,
      narrowed_allowed raw bad test exact start rows allowed,
      omega (arith, lt, length-map rows (λ (r : List Tern). picked at_inputs r)),
      (
        bad,
        refl,
        reaches_in_part raw bad test exact start rows t
            (subst (λ n. ReachesBad raw start rows t n) (let e : Some b ≡ Some bad = sym at ∙ bad_is in let same : b ≡ bad = cc in same)
            reaches),
      ),
    )

    pub wide_property : (start : List Tern) (rows : List (List Tern)) (t : ℕ) (h : ReachesProperty small start rows t 0)
        → ReachesProperty raw (wide_start (start_of raw) first_long X start rows h.0)
        (wide_rows (start_of raw) first_long X start rows h.0) t p
    wide_property start rows t (fits, allowed, lt, (b, at, reaches)) = (
      wide_fits (start_of raw) first_long X start rows fits,
      wide_allowed (start_of raw) first_long X start rows fits first_allowed allowed,
      omega (arith, lt, length-map rows (λ (r : List Tern). spread at_inputs (replicate (length raw.inputs) X) r)),
      (
        bad,
        bad_is,
        wide_reaches (start_of raw) first_long X start rows fits t
            (subst (λ n. ReachesBad small start rows t n) (let e : Some b ≡ Some bad = sym at in let same : b ≡ bad = cc in same)
            reaches),
      ),
    )

    pub part_reached : (k : ℕ) → IsReachedWithin raw k p ↔ IsReachedWithin small k 0
    part_reached k = (
      λ (start, rows, t, below, h).
          (narrowed_start test raw start, narrowed_rows test raw rows, t, below, narrowed_property start rows t h),
      λ (start, rows, t, below, h). (
        wide_start (start_of raw) first_long X start rows h.0,
        wide_rows (start_of raw) first_long X start rows h.0,
        t,
        below,
        wide_property start rows t h,
      ),
    )

    pub part_at : (t : ℕ) → IsReachedAt raw t p ↔ IsReachedAt small t 0
    part_at t = (
      λ (start, rows, h). (narrowed_start test raw start, narrowed_rows test raw rows, narrowed_property start rows t h),
      λ (start, rows, h). (
        wide_start (start_of raw) first_long X start rows h.0,
        wide_rows (start_of raw) first_long X start rows h.0,
        wide_property start rows t h,
      ),
    )

    pub part_unreachable : IsUnreachable small 0 → IsUnreachable raw p
    part_unreachable never start rows t reached =
        let (few, few_rows, s, below, there) = (part_reached (t + 1)).0 (start, rows, t, omega arith, reached) in
        never few few_rows s there

    narrowed_known : (start : List Tern) (rows : List (List Tern)) → IsKnownRun start rows
        → IsKnownRun (narrowed_start test raw start) (narrowed_rows test raw rows)
    narrowed_known start rows known = record {
      start_known = All-picked (λ w. w ≢ X) at_latches start known.start_known;
      rows_known = All-map AreKnown (λ (r : List Tern). picked at_inputs r) rows
          (λ i e lt. All-picked (λ w. w ≢ X) at_inputs _ (known.rows_known i e lt));
    }

    narrowed_breaks : (k : ℕ) (start : List Tern) (rows : List (List Tern)) → BreaksStep raw k p start rows
        → BreaksStep small k 0 (narrowed_start test raw start) (narrowed_rows test raw rows)
    narrowed_breaks k start rows h =
        let same : h.bad ≡ bad = (let e : Some h.bad ≡ Some bad = sym h.bad_is ∙ bad_is in cc) in
        record {
          fits = narrowed_fits raw bad test exact start rows h.fits;
          known = narrowed_known start rows h.known;
          frames = length-map rows (λ (r : List Tern). picked at_inputs r) ∙ h.frames;
          bad = bad;
          bad_is = refl;
          reached = reaches_in_part raw bad test exact start rows k (subst (λ n. ReachesBad raw start rows k n) same h.reached);
          none_before = λ t below r.
              h.none_before t below (subst (λ n. ReachesBad raw start rows t n) (sym same)
              (reaches_in_whole raw bad test exact start rows t r));
        }

    abbrev zeros : List Tern
    zeros = replicate (length raw.latches) Zero

    zeros_long : length zeros ≡ length raw.latches
    zeros_long = length-replicate (length raw.latches) Zero

    known_zero : Zero ≢ X
    known_zero e = cc

    -- a run without unknown values whose part breaks the step
    pub breaks_with : (k : ℕ) (start : List Tern) (rows : List (List Tern)) → Fits raw start rows → IsKnownRun start rows
        → BreaksStep small k 0 (narrowed_start test raw start) (narrowed_rows test raw rows) → BreaksStep raw k p start rows
    breaks_with k start rows fits known h =
        let same : h.bad ≡ bad = (let e : Some h.bad ≡ Some bad = sym h.bad_is in cc) in
        record {
          fits = fits;
          known = known;
          frames = sym (length-map rows (λ (r : List Tern). picked at_inputs r)) ∙ h.frames;
          bad = bad;
          bad_is = bad_is;
          reached = reaches_in_whole raw bad test exact start rows k
              (subst (λ n. ReachesBad small (narrowed_start test raw start) (narrowed_rows test raw rows) k n) same h.reached);
          none_before = λ t below r.
              h.none_before t below
              (subst (λ n. ReachesBad small (narrowed_start test raw start) (narrowed_rows test raw rows) t n) (sym same)
              (reaches_in_part raw bad test exact start rows t r));
        }

    wide_breaks : (k : ℕ) (start : List Tern) (rows : List (List Tern)) (h : BreaksStep small k 0 start rows)
        → BreaksStep raw k p (wide_start zeros zeros_long Zero start rows h.fits) (wide_rows zeros zeros_long Zero start rows h.fits)
    wide_breaks k start rows h =
        breaks_with k (wide_start zeros zeros_long Zero start rows h.fits) (wide_rows zeros zeros_long Zero start rows h.fits)
        (wide_fits zeros zeros_long Zero start rows h.fits)
        (wide_known zeros zeros_long Zero start rows h.fits
        (All-replicate (λ w. w ≢ X) (length raw.latches) Zero known_zero) known_zero h.known)
        (subst (λ (s : List Tern). BreaksStep small k 0 s (narrowed_rows test raw (wide_rows zeros zeros_long Zero start rows h.fits)))
        (sym (start_back zeros zeros_long Zero start rows h.fits))
        (subst (λ (rs : List (List Tern)). BreaksStep small k 0 start rs)
        (sym (rows_are_back zeros zeros_long Zero start rows h.fits)) h))

    pub part_broken : (k : ℕ) → HasBrokenStep raw k p ↔ HasBrokenStep small k 0
    part_broken k = (
      λ (start, rows, h). (narrowed_start test raw start, narrowed_rows test raw rows, narrowed_breaks k start rows h),
      λ (start, rows, h). (
        wide_start zeros zeros_long Zero start rows h.fits,
        wide_rows zeros zeros_long Zero start rows h.fits,
        wide_breaks k start rows h,
      ),
    )
