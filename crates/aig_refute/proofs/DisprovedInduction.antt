-- Some assignment satisfies the formula of an induction where a run disproves the induction: one from a start that the
-- resets allow reaches the property within the frames, or one breaks the step.
use Rattle.std.proofs.Common.{◌≡◌, ◌⊎◌, inl, inr, ℕ, suc, ◌+◌, ◌-◌, ◌*◌, ◌%◌, ◌<◌, Bool, true, false, not}
use Rattle.std.proofs.Common.{if◌then◌else◌, List, [], ◌∷◌, ◌++◌, length, map, flat_map}
use Rattle.std.proofs.Common.{Some, slice_get, slice_index, option_map, All, refl, sym, ◌∙◌, ap, subst, arith, add-one}
use Rattle.std.specs.List.{list_all}
use Rattle.std.proofs.lemmas.Bool.Decides.{nat_tests}
use Rattle.std.proofs.lemmas.List.{length-take-le}
use Rattle.std.proofs.lemmas.List.Concat.{flat_map-cons}
use Rattle.std.proofs.lemmas.List.Elements.{All-head, All-tail}
use Rattle.std.proofs.lemmas.List.Folds.{list_all-append}
use Rattle.std.proofs.lemmas.List.FromFn.{get_or-map-range_with_len}
use Rattle.std.proofs.lemmas.Option.{slice_get-map, slice_get_within, get_or_from_slice_get}
use Rattle.std.proofs.lemmas.Bool.{and_parts}
use Rattle.aig_cnf.proofs.AddedLemmas.{satisfies_parts}
use Rattle.aig_sat.proofs.checking.TruthLemmas.{true_even, true_odd, true_negation}
use Rattle.aig_parts.specs.Literal.{negation, variable}
use Rattle.aig_parts.specs.declared.latch.Latch.{Latch}
use Rattle.aig_parts.specs.declared.raw.Raw.{Raw}
use Rattle.aig_parts.specs.declared.ternary.Tern.{Tern}
use Rattle.aig_parts.specs.declared.ternary.Tern.TheVariants.{Zero, One, X}
use Rattle.aig_base.specs.Circuit.{IsCircuit}
use Rattle.aig_base.specs.Order.{IsCanonicalOrder}
use Rattle.aig_base.specs.Runs.{Allows, ReachesProperty}
use Rattle.aig_base.specs.Sound.{IsReset}
use Rattle.aig_base.specs.Value.{reset_value}
use Rattle.aig_base.proofs.lists.Positions.{slice_get_right}
use Rattle.aig_cnf.specs.Formula.{all_but_last, cone, first_reached, formula_of, gate_clauses, goals, implies}
use Rattle.aig_cnf.specs.Formula.{reset_literal, reset_literals, start_literals}
use Rattle.aig_cnf.specs.Query.{from_any_state, induction, uninitialised_latch}
use Rattle.aig_cnf.proofs.AnyCircuit.{from_any_circuit}
use Rattle.aig_cnf.proofs.FormulaText.{all_but_last-append}
use Rattle.aig_sat.specs.checker.Clause.{is_true, meets, Satisfies}
use Rattle.aig_sim.specs.Reached.{witness_at}
use Rattle.aig_sim.specs.WitnessText.{Witness}
use Rattle.aig_refute.specs.Models.{tern_of, values_of}
use Rattle.aig_refute.specs.Satisfiable.{BreaksStep, DisprovesInduction, HasBrokenStep, IsKnownRun, IsNamedInduction}
use Rattle.aig_refute.specs.Satisfiable.{IsReachedWithin, IsSatisfiable}
use Rattle.aig_refute.specs.UnrolledWitness.{rows_in, start_in, IsConfirmedWithin, IsRun, MakesBad}
use Rattle.aig_refute.proofs.AnyState.{any_allowed, any_fits, reaches_any}
use Rattle.aig_refute.proofs.BadFormula.{formula_met, goal_frame, in_model, wide_values}
use Rattle.aig_refute.proofs.FirstReached.{at_reached, satisfies_both}
use Rattle.aig_refute.proofs.RowValues.{Allowed}
use Rattle.aig_refute.proofs.SettledRows.{length_settled, makes_settled, settled, settled_known}
use Rattle.aig_refute.proofs.StepFormula.{each_named}
use Rattle.aig_refute.proofs.Tseitin.{both_and, meets_one}
use Rattle.aig_refute.proofs.UnrolledRows.{row_in, row_known, row_of_run, row_wide, run_in}
use Rattle.aig_refute.proofs.UnrolledWitnesses.{in_row, made_bad_in}
use Rattle.aig_refute.proofs.WithinFormula.{confirmed_at}
use Rattle.aig_unroll.specs.FrameLiteral.{input_count, is_uninitialised}
use Rattle.aig_unroll.specs.Unrolled.{frames, unrolled}
use Rattle.aig_unroll.specs.UnrolledValues.{free_values, unrolled_row}
use Rattle.aig_unroll.proofs.UnrolledRow.{frames_at, length-flat}

-- ---- what a literal implies

implied_true : (a : ℕ → Bool) (ms : List ℕ) (l : ℕ) → list_all (is_true a) ms ≡ true → Satisfies a (implies ms l)
implied_true a [] l h = refl
implied_true a (m ∷ ms) l h =
    let (first, rest) = and_parts (is_true a m) (list_all (is_true a) ms) h in
    both_and (meets_one a (negation l ∷ m ∷ []) 1 m refl first) (implied_true a ms l rest)

implied_false : (a : ℕ → Bool) (ms : List ℕ) (l : ℕ) → is_true a l ≡ false → Satisfies a (implies ms l)
implied_false a [] l h = refl
implied_false a (m ∷ ms) l h =
    both_and (meets_one a (negation l ∷ m ∷ []) 0 (negation l) refl (true_negation a l ∙ ap not h)) (implied_false a ms l h)

-- what each of some literals implies
each_implied : (a : ℕ → Bool) (ms ls : List ℕ) → ((i l : ℕ) → slice_get ls i ≡ Some l → Satisfies a (implies ms l))
    → Satisfies a (flat_map (implies ms) ls)
each_implied a ms [] each = refl
each_implied a ms (l ∷ ls) each =
    subst (λ (cs : List (List ℕ)). Satisfies a cs) (sym (flat_map-cons (implies ms) l ls))
    (satisfies_both a (implies ms l) (flat_map (implies ms) ls) (each 0 l refl)
    (each_implied a ms ls (λ i m at. each (suc i) m at)))

-- ---- latches that start as their resets say

zero_false : (b : Bool) → Zero ≡ tern_of b → b ≡ false
zero_false true e = cc
zero_false false e = refl

one_true : (b : Bool) → One ≡ tern_of b → b ≡ true
one_true true e = refl
one_true false e = cc

reset_true : (a : ℕ → Bool) (v n : ℕ) → (n ≡ 0) ⊎ (n ≡ 1) → settled (reset_value n) ≡ tern_of (a v)
    → is_true a (2 * v + (1 - n)) ≡ true
reset_true a v n (inl e) is =
    let off : a v ≡ false = zero_false (a v) (ap (λ m. settled (reset_value m)) (sym e) ∙ is) in
    let literal : 2 * v + (1 - n) ≡ 2 * v + 1 = omega (arith, e) in
    let odd : (2 * v + 1) % 2 ≡ 1 = grind arith in
    let half : variable (2 * v + 1) ≡ v = grind arith in
    ap (is_true a) literal ∙ true_odd a (2 * v + 1) odd ∙ ap (λ u. not (a u)) half ∙ ap not off
reset_true a v n (inr e) is =
    let on : a v ≡ true = one_true (a v) (ap (λ m. settled (reset_value m)) (sym e) ∙ is) in
    let literal : 2 * v + (1 - n) ≡ 2 * v = omega (arith, e) in
    let even : (2 * v) % 2 ≡ 0 = grind arith in
    let half : variable (2 * v) ≡ v = grind arith in
    ap (is_true a) literal ∙ true_even a (2 * v) even ∙ ap a half ∙ on

start_true : (a : ℕ → Bool) (v : ℕ) (x : Latch) (w : Tern) → IsReset x → Allows x w → settled w ≡ tern_of (a v)
    → list_all (is_true a) (reset_literal v x) ≡ true
start_true a v x w reset allows is = go (is_uninitialised x) refl
  where
    no_own : is_uninitialised x ≡ false → x.reset ≡ x.lit → ⊥
    no_own e own = grind (arith, nat_tests)

    literal_true : is_uninitialised x ≡ false → Allows x w → IsReset x → is_true a (2 * v + (1 - x.reset)) ≡ true
    literal_true e (inl own) reset = absurd (no_own e own)
    literal_true e (inr same) (inl low) = reset_true a v x.reset (inl low) (ap settled (sym same) ∙ is)
    literal_true e (inr same) (inr (inl high)) = reset_true a v x.reset (inr high) (ap settled (sym same) ∙ is)
    literal_true e (inr same) (inr (inr own)) = absurd (no_own e own)

    go : (b : Bool) → is_uninitialised x ≡ b
        → list_all (is_true a) (if b then [] else (2 * v + (1 - x.reset)) ∷ []) ≡ true
    go true e = refl
    go false e = both_and (literal_true e allows reset) refl

starts_true : (a : ℕ → Bool) (v : ℕ) (xs : List Latch) (ws : List Tern) → length ws ≡ length xs → All IsReset xs
    → Allowed xs ws → ((i : ℕ) (w : Tern) → slice_get ws i ≡ Some w → settled w ≡ tern_of (a (v + i)))
    → list_all (is_true a) (reset_literals v xs) ≡ true
unfolding reset_literals
starts_true a v [] ws long resets allowed are = refl
starts_true a v (x ∷ xs) [] long resets allowed are = absurd (omega (arith, long))
starts_true a v (x ∷ xs) (w ∷ ws) long resets allowed are =
    let here : v + 0 ≡ v = omega arith in
    list_all-append (is_true a) (reset_literal v x) (reset_literals (v + 1) xs)
    ∙ both_and
    (start_true a v x w (All-head IsReset x xs resets) (allowed 0 x w refl refl)
    (subst (λ (n : ℕ). settled w ≡ tern_of (a n)) here (are 0 w refl)))
    (starts_true a (v + 1) xs ws (omega (arith, long)) (All-tail IsReset x xs resets) (λ p y u. allowed (suc p) y u)
    (λ i u at.
    let e : v + suc i ≡ v + 1 + i = omega arith in
    subst (λ (n : ℕ). settled u ≡ tern_of (a n)) e (are (suc i) u at)))

-- where each latch starts at any value, a start is its free values
free_any : (xs : List Latch) (ws : List Tern) → length ws ≡ length xs → free_values (map uninitialised_latch xs) ws ≡ ws
free_any [] [] long = refl
free_any [] (w ∷ ws) long = absurd (omega (arith, long))
free_any (x ∷ xs) [] long = absurd (omega (arith, long))
free_any (x ∷ xs) (w ∷ ws) long =
    ap (λ (b : Bool). if b then w ∷ free_values (map uninitialised_latch xs) ws else free_values (map uninitialised_latch xs) ws)
    (own x.lit)
    ∙ ap (λ (us : List Tern). w ∷ us) (free_any xs ws (omega (arith, long)))
  where
    own : (n : ℕ) → is_uninitialised (record { lit = n; next = 0; reset = n }) ≡ true
    own n = grind (arith, nat_tests)

-- ---- the formula

module _ (raw : Raw) (circuit : IsCircuit raw) (order : List ℕ) (canonical : IsCanonicalOrder (from_any_state raw) order) (k p : ℕ) where
  abbrev free : Raw
  free = from_any_state raw

  abbrev all : Raw
  all = unrolled free order (k + 1)

  any : IsCircuit free
  any = from_any_circuit raw circuit

  -- the bad literal of a frame
  abbrev literal_at : ℕ → ℕ
  literal_at t = slice_index all.bad (t * length raw.bad + p)

  abbrev reached : List ℕ
  reached = goals all (length raw.bad) (k + 1) p

  abbrev starts : List ℕ
  starts = start_literals (induction k p) raw

  abbrev clauses : List (List ℕ)
  clauses = (formula_of raw order (induction k p)).clauses

  -- those of all frames but the last
  pub goals_before : all_but_last reached ≡ frames (λ t. literal_at t ∷ []) k
  goals_before =
      ap (λ n. all_but_last (frames (λ t. literal_at t ∷ []) n)) (add-one k)
      ∙ all_but_last-append (frames (λ t. literal_at t ∷ []) k) (literal_at k)

  -- they imply the start
  earlier : (a : ℕ → Bool) → ((t : ℕ) → t < k → Satisfies a (implies starts (literal_at t)))
      → Satisfies a (flat_map (implies starts) (all_but_last reached))
  earlier a each =
      let before = frames (λ t. literal_at t ∷ []) k in
      subst (λ (ls : List ℕ). Satisfies a (flat_map (implies starts) ls)) (sym goals_before)
      (each_implied a starts before (λ i l at.
      let (t, lt, is) = goal_frame literal_at k i l at in
      subst (λ (m : ℕ). Satisfies a (implies starts m)) (sym is) (each t lt)))

  satisfied : (a : ℕ → Bool) → meets a (1 ∷ []) ≡ true → meets a reached ≡ true
      → ((t : ℕ) → t < k → Satisfies a (implies starts (literal_at t)))
      → Satisfies a (flat_map gate_clauses (cone reached all.gates)) → Satisfies a clauses
  satisfied a low some each gates =
      both_and low (both_and some
      (satisfies_both a (flat_map (implies starts) (all_but_last reached)) (flat_map gate_clauses (cone reached all.gates))
      (earlier a each) gates))

  -- ---- a run that breaks the step

  broken_named : (start : List Tern) (rows : List (List Tern)) → BreaksStep raw k p start rows
      → IsNamedInduction raw order k p start rows
  broken_named start rows h =
      let (a, satisfies, start_is, rows_are) = each_named raw circuit order canonical k p start rows h in
      let (low, rest) = and_parts (meets a (1 ∷ [])) (list_all (meets a) (first_reached reached ++ flat_map gate_clauses (cone reached all.gates)))
      satisfies in
      let (first, gates) = satisfies_parts a (first_reached reached) (flat_map gate_clauses (cone reached all.gates)) rest in
      let (quiet, loud) = at_reached a literal_at k first in
      let (j, stands) = frames_at (λ s. literal_at s ∷ []) (k + 1) k 0 (literal_at k) (omega arith) refl in (
        a,
        satisfied a low (meets_one a reached j (literal_at k) stands loud)
            (λ t below. implied_false a starts (literal_at t) (quiet t below)) gates,
        start_is,
        rows_are,
      )

  pub broken_satisfies : HasBrokenStep raw k p → IsSatisfiable clauses
  broken_satisfies (start, rows, h) =
      let (a, satisfies, start_is, rows_are) = broken_named start rows h in (a, satisfies)

  -- ---- a run that reaches the property

  -- the latches' values stand behind the rows
  pub start_at : (row start : List Tern) → length row ≡ input_count free (k + 1) → length start ≡ length raw.latches
      → start_in free (k + 1) row ≡ start → (i : ℕ) (w : Tern) → slice_get start i ≡ Some w
      → slice_get row ((k + 1) * length raw.inputs + i) ≡ Some w
  start_at row start wide long is i w at =
      let run = run_in free (k + 1) row wide in
      let flat : List Tern = flat_map (λ r. r) (rows_in free (k + 1) row) in
      let before : length flat ≡ (k + 1) * length raw.inputs =
      length-flat (length raw.inputs) (rows_in free (k + 1) row) run.fits.inputs ∙ ap (λ n. n * length raw.inputs) run.frames in
      let row_is : flat ++ start ≡ row =
      ap (λ ws. flat ++ ws) (sym (ap (free_values free.latches) is ∙ free_any raw.latches start long))
      ∙ (row_in free (k + 1) row wide).row_is in
      subst (λ (ws : List Tern). slice_get ws ((k + 1) * length raw.inputs + i) ≡ Some w) row_is
      (subst (λ (n : ℕ). slice_get (flat ++ start) (n + i) ≡ Some w) before (slice_get_right flat start i w at))

  -- so the assignment of a row with 0 in place of x has them
  value_at : (a : ℕ → Bool) (row : List Tern) → values_of free (k + 1) a ≡ map settled row
      → (j : ℕ) (w : Tern) → slice_get row j ≡ Some w → settled w ≡ tern_of (a (1 + j))
  value_at a row is j w at =
      let values = values_of free (k + 1) a in
      let here : slice_get values j ≡ Some (settled w) =
      ap (λ (ws : List Tern). slice_get ws j) is ∙ slice_get-map settled row j ∙ ap (option_map settled) at in
      let inside = slice_get_within values j (settled w) here in
      sym (get_or_from_slice_get values j (settled w) X here)
      ∙ get_or-map-range_with_len (λ v. tern_of (a v)) 1 (input_count free (k + 1)) j (1 + j) X
      (omega (arith, inside, wide_values free any order canonical (k + 1) a)) refl

  pub reached_satisfies : IsReachedWithin raw k p → IsSatisfiable clauses
  reached_satisfies (start, rows, t, below, (fits, allowed, lt, (b, at, reaches))) =
      let w = witness_at start rows t p in
      let h : IsConfirmedWithin free (k + 1) w =
      confirmed_at free any (k + 1) start rows t p (omega (arith, below))
      (any_fits raw start rows fits, any_allowed raw start, lt, (b, at, reaches_any raw start rows t b reaches)) in
      let (row, wide, same, made) = in_row free any order canonical (k + 1) w h in
      let short : length w.rows ≡ t + 1 = length-take-le (t + 1) rows (omega (arith, lt)) in
      let (a, satisfies, row_is) = in_model free any order canonical (k + 1) (map settled row) (length_settled row ∙ wide)
      (settled_known row) (length w.rows - 1) p (omega (arith, short, below)) (slice_get_within raw.bad p b at)
      (makes_settled free order (k + 1) row (length w.rows - 1) p made) in
      let (low, some, gates) = formula_met free order (k + 1) p a satisfies in
      let first : list_all (is_true a) starts ≡ true =
      starts_true a ((k + 1) * length raw.inputs + 1) raw.latches start fits.latches circuit.sound.resets allowed
      (λ i v stands.
      let e : 1 + ((k + 1) * length raw.inputs + i) ≡ (k + 1) * length raw.inputs + 1 + i = omega arith in
      subst (λ (n : ℕ). settled v ≡ tern_of (a n)) e
      (value_at a row row_is ((k + 1) * length raw.inputs + i) v
      (start_at row start wide fits.latches (ap (λ (u : Witness). u.start) same) i v stands))) in
      (a, satisfied a low some (λ s under. implied_true a starts (literal_at s) first) gates)

  -- ---- a run without unknown values that reaches the property is named

  settled_tern : (b : Bool) → settled (tern_of b) ≡ tern_of b
  settled_tern true = refl
  settled_tern false = refl

  -- the assignment of a row has its values
  value_in : (a : ℕ → Bool) (row : List Tern) → values_of free (k + 1) a ≡ row
      → (j : ℕ) (w : Tern) → slice_get row j ≡ Some w → settled w ≡ tern_of (a (1 + j))
  value_in a row is j w at =
      let values = values_of free (k + 1) a in
      let here : slice_get values j ≡ Some w = ap (λ (ws : List Tern). slice_get ws j) is ∙ at in
      let inside = slice_get_within values j w here in
      let same : w ≡ tern_of (a (1 + j)) =
      sym (get_or_from_slice_get values j w X here)
      ∙ get_or-map-range_with_len (λ v. tern_of (a v)) 1 (input_count free (k + 1)) j (1 + j) X
      (omega (arith, inside, wide_values free any order canonical (k + 1) a)) refl in
      ap settled same ∙ settled_tern (a (1 + j))

  reached_named : (start : List Tern) (rows : List (List Tern)) → IsKnownRun start rows → length rows ≡ k + 1 → (t : ℕ) → t < k
      → ReachesProperty raw start rows t p → IsNamedInduction raw order k p start rows
  reached_named start rows known long t below (fits, allowed, lt, (b, at, reaches)) =
      let run : IsRun free (k + 1) start rows =
      record { frames = long; fits = any_fits raw start rows fits; allowed = any_allowed raw start } in
      let row = unrolled_row free start rows in
      let holds = row_of_run free (k + 1) start rows run in
      let made : MakesBad free order (k + 1) row t p =
      (made_bad_in free any order canonical (k + 1) row start rows long refl run.fits run.allowed t p b (omega (arith, below)) at).1
      (reaches_any raw start rows t b reaches) in
      let (a, satisfies, row_is) = in_model free any order canonical (k + 1) row (row_wide free (k + 1) start rows run)
      (row_known free start rows known) t p (omega (arith, below)) (slice_get_within raw.bad p b at) made in
      let (low, some, gates) = formula_met free order (k + 1) p a satisfies in
      let first : list_all (is_true a) starts ≡ true =
      starts_true a ((k + 1) * length raw.inputs + 1) raw.latches start fits.latches circuit.sound.resets allowed
      (λ i v stands.
      let e : 1 + ((k + 1) * length raw.inputs + i) ≡ (k + 1) * length raw.inputs + 1 + i = omega arith in
      subst (λ (n : ℕ). settled v ≡ tern_of (a n)) e
      (value_in a row row_is ((k + 1) * length raw.inputs + i) v
      (start_at row start (row_wide free (k + 1) start rows run) fits.latches holds.start_is i v stands))) in (
        a,
        satisfied a low some (λ s under. implied_true a starts (literal_at s) first) gates,
        ap (λ (r : List Tern). start_in free (k + 1) r) row_is ∙ holds.start_is,
        ap (λ (r : List Tern). rows_in free (k + 1) r) row_is ∙ holds.rows_are,
      )

  pub each_disproof : (start : List Tern) (rows : List (List Tern)) → DisprovesInduction raw k p start rows
      → IsNamedInduction raw order k p start rows
  each_disproof start rows h = go h.fails
    where
      go : ((t : ℕ) × (t < k) × ReachesProperty raw start rows t p) ⊎ BreaksStep raw k p start rows
          → IsNamedInduction raw order k p start rows
      go (inl (t, below, reaches)) = reached_named start rows h.known h.frames t below reaches
      go (inr breaks) = broken_named start rows breaks
