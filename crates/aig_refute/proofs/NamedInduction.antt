-- An assignment that satisfies the formula of an induction names a run that disproves the induction.
use Rattle.std.proofs.Common.{◌≡◌, ◌↔◌, ◌⊎◌, inl, inr, ℕ, zero, suc, ◌+◌, ◌-◌, ◌*◌, ◌%◌, ◌<◌, Bool, true}
use Rattle.std.proofs.Common.{false, not, ◌&&◌, ◌||◌, if◌then◌else◌, List, [], ◌∷◌, ◌++◌, length, flat_map}
use Rattle.std.proofs.Common.{Some, slice_get, slice_index, get_or, All, refl, sym, ◌∙◌, ap, subst, arith}
use Rattle.std.specs.List.{list_all}
use Rattle.std.proofs.lemmas.Bool.{eqb-true, not-true, and_parts}
use Rattle.std.proofs.lemmas.List.Concat.{flat_map-cons}
use Rattle.std.proofs.lemmas.List.Elements.{All-head, All-tail}
use Rattle.std.proofs.lemmas.List.Folds.{list_all-append}
use Rattle.std.proofs.lemmas.List.FromFn.{get_or-map-range_with_len}
use Rattle.std.proofs.lemmas.Option.{get_or_from_slice_get, slice_get-get_or, slice_get_within}
use Rattle.aig_cnf.proofs.AddedLemmas.{satisfies_parts}
use Rattle.aig_sat.proofs.checking.TruthLemmas.{true_even, true_odd, true_negation}
use Rattle.aig_parts.specs.Literal.{negation, variable}
use Rattle.aig_parts.specs.declared.gate.Gate.{Gate}
use Rattle.aig_parts.specs.declared.latch.Latch.{Latch}
use Rattle.aig_parts.specs.declared.raw.Raw.{Raw}
use Rattle.aig_parts.specs.declared.ternary.Tern.{Tern}
use Rattle.aig_parts.specs.declared.ternary.Tern.TheVariants.{One, X}
use Rattle.aig_base.specs.Circuit.{IsCircuit}
use Rattle.aig_base.specs.Order.{IsCanonicalOrder}
use Rattle.aig_base.specs.Runs.{Allows, IsAllowed, ReachesBad, ReachesProperty}
use Rattle.aig_base.specs.Sound.{IsReset}
use Rattle.aig_base.specs.Value.{Value, reset_value}
use Rattle.aig_cnf.specs.Formula.{Cnf, IsFormulaOf, all_but_last, cone, formula_of, gate_clauses, goals, implies}
use Rattle.aig_cnf.specs.Formula.{reset_literal, reset_literals, start_literals}
use Rattle.aig_cnf.specs.Query.{from_any_state, induction}
use Rattle.aig_cnf.proofs.AnyCircuit.{from_any_circuit}
use Rattle.aig_sat.specs.checker.Clause.{is_true, meets, Satisfies}
use Rattle.aig_refute.specs.Models.{tern_of, values_of}
use Rattle.aig_refute.specs.Satisfiable.{BreaksStep, DisprovesInduction, HasBrokenStep, IsReachedWithin, IsSatisfiable}
use Rattle.aig_refute.specs.Satisfiable.{step_rows, step_start}
use Rattle.aig_refute.specs.UnrolledWitness.{rows_in, start_in, IsRun, MakesBad}
use Rattle.aig_refute.proofs.AnyState.{fits_from_any, reaches_any, reaches_from_any}
use Rattle.aig_refute.proofs.BadFormula.{bad_at, bad_in_range, goal_frame, goal_value, valued, values_known}
use Rattle.aig_refute.proofs.BadFormula.{wide_values}
use Rattle.aig_refute.proofs.DisprovedInduction.{broken_satisfies, goals_before, reached_satisfies, start_at}
use Rattle.aig_refute.proofs.Tseitin.{one_met}
use Rattle.aig_refute.proofs.UnrolledRows.{known_in, run_in}
use Rattle.aig_refute.proofs.UnrolledWitnesses.{reaches_in_row}
use Rattle.aig_unroll.specs.FrameLiteral.{input_count, is_uninitialised}
use Rattle.aig_unroll.specs.Unrolled.{frames, unrolled}
use Rattle.aig_unroll.proofs.UnrolledRow.{frames_at}

true_false : (b : Bool) → b ≡ true → b ≡ false → ⊥
true_false true e f = cc
true_false false e f = cc

-- ---- what a true literal implies

second_true : (b d : Bool) → b ≡ false → (b || (d || false)) ≡ true → d ≡ true
second_true true d e f = cc
second_true false true e f = refl
second_true false false e f = cc

all_implied : (a : ℕ → Bool) (ms : List ℕ) (l : ℕ) → Satisfies a (implies ms l) → is_true a l ≡ true
    → list_all (is_true a) ms ≡ true
all_implied a [] l h on = refl
all_implied a (m ∷ ms) l h on =
    let (first, rest) = and_parts (meets a (negation l ∷ m ∷ [])) (list_all (meets a) (implies ms l)) h in
    let off : is_true a (negation l) ≡ false = true_negation a l ∙ ap not on in
    let here = second_true (is_true a (negation l)) (is_true a m) off first in
    let others = all_implied a ms l rest on in rw (here, others) refl

implied_at : (a : ℕ → Bool) (ms ls : List ℕ) (j l : ℕ) → Satisfies a (flat_map (implies ms) ls) → slice_get ls j ≡ Some l
    → is_true a l ≡ true → list_all (is_true a) ms ≡ true
implied_at a ms [] j l h at on = cc
implied_at a ms (x ∷ ls) j l h at on =
    let (first, rest) = satisfies_parts a (implies ms x) (flat_map (implies ms) ls)
    (subst (λ (cs : List (List ℕ)). Satisfies a cs) (flat_map-cons (implies ms) x ls) h) in
    go j at first (λ i here. implied_at a ms ls i l rest here on)
  where
    go : (j : ℕ) → slice_get (x ∷ ls) j ≡ Some l → Satisfies a (implies ms x)
        → ((i : ℕ) → slice_get ls i ≡ Some l → list_all (is_true a) ms ≡ true) → list_all (is_true a) ms ≡ true
    go zero at first later =
        let same : l ≡ x = (let e : Some x ≡ Some l = at in cc) in
        all_implied a ms x first (subst (λ m. is_true a m ≡ true) same on)
    go (suc i) at first later = later i at

-- ---- a start that obeys the resets

only_one : (b : Bool) → (b && true) ≡ true → b ≡ true
only_one true e = refl
only_one false e = cc

-- the value of a variable whose literal for a reset is true
value_of_reset : (a : ℕ → Bool) (v n : ℕ) → (n ≡ 0) ⊎ (n ≡ 1) → is_true a (2 * v + (1 - n)) ≡ true → tern_of (a v) ≡ reset_value n
value_of_reset a v n (inl e) is =
    let literal : 2 * v + (1 - n) ≡ 2 * v + 1 = omega (arith, e) in
    let odd : (2 * v + 1) % 2 ≡ 1 = grind arith in
    let half : variable (2 * v + 1) ≡ v = grind arith in
    let off : a v ≡ false = not-true (a v)
    (sym (ap (is_true a) literal ∙ true_odd a (2 * v + 1) odd ∙ ap (λ u. not (a u)) half) ∙ is) in
    ap tern_of off ∙ ap reset_value (sym e)
value_of_reset a v n (inr e) is =
    let literal : 2 * v + (1 - n) ≡ 2 * v = omega (arith, e) in
    let even : (2 * v) % 2 ≡ 0 = grind arith in
    let half : variable (2 * v) ≡ v = grind arith in
    let on : a v ≡ true = sym (ap (is_true a) literal ∙ true_even a (2 * v) even ∙ ap a half) ∙ is in
    ap tern_of on ∙ ap reset_value (sym e)

one_allowed : (a : ℕ → Bool) (v : ℕ) (x : Latch) (w : Tern) → IsReset x → w ≡ tern_of (a v)
    → list_all (is_true a) (reset_literal v x) ≡ true → Allows x w
one_allowed a v x w reset is h = go (is_uninitialised x) refl reset h
  where
    go : (b : Bool) → is_uninitialised x ≡ b → IsReset x
        → list_all (is_true a) (if b then [] else (2 * v + (1 - x.reset)) ∷ []) ≡ true → Allows x w
    go true e reset h = inl (eqb-true x.reset x.lit e)
    go false e (inl low) h =
        inr (is ∙ value_of_reset a v x.reset (inl low) (only_one (is_true a (2 * v + (1 - x.reset))) h))
    go false e (inr (inl high)) h =
        inr (is ∙ value_of_reset a v x.reset (inr high) (only_one (is_true a (2 * v + (1 - x.reset))) h))
    go false e (inr (inr same)) h = inl same

all_allowed : (a : ℕ → Bool) (v : ℕ) (xs : List Latch) → All IsReset xs → list_all (is_true a) (reset_literals v xs) ≡ true
    → (i : ℕ) (x : Latch) (w : Tern) → slice_get xs i ≡ Some x → w ≡ tern_of (a (v + i)) → Allows x w
unfolding reset_literals
all_allowed a v [] resets h i x w at is = cc
all_allowed a v (y ∷ xs) resets h i x w at is =
    let (first, rest) = and_parts (list_all (is_true a) (reset_literal v y)) (list_all (is_true a) (reset_literals (v + 1) xs))
    (sym (list_all-append (is_true a) (reset_literal v y) (reset_literals (v + 1) xs)) ∙ h) in
    go i at is first (λ j here e. all_allowed a (v + 1) xs (All-tail IsReset y xs resets) rest j x w here e)
  where
    go : (i : ℕ) → slice_get (y ∷ xs) i ≡ Some x → w ≡ tern_of (a (v + i)) → list_all (is_true a) (reset_literal v y) ≡ true
        → ((j : ℕ) → slice_get xs j ≡ Some x → w ≡ tern_of (a (v + 1 + j)) → Allows x w) → Allows x w
    go zero at is first later =
        let same : y ≡ x = (let e : Some y ≡ Some x = at in cc) in
        let here : v + 0 ≡ v = omega arith in
        subst (λ (z : Latch). Allows z w) same
        (one_allowed a v y w (All-head IsReset y xs resets) (is ∙ ap (λ n. tern_of (a n)) here) first)
    go (suc j) at is first later =
        let e : v + suc j ≡ v + 1 + j = omega arith in later j at (is ∙ ap (λ n. tern_of (a n)) e)

-- ---- the first frames

none_more : (f : ℕ → Bool) (k : ℕ) → ((t : ℕ) → t < k → f t ≡ false) → f k ≡ false → (t : ℕ) → (t < k) ⊎ (t ≡ k) → f t ≡ false
none_more f k none e t (inl under) = none t under
none_more f k none e t (inr same) = ap f same ∙ e

-- one of the first k is true, or none is
some_true : (f : ℕ → Bool) (k : ℕ) → ((t : ℕ) × (t < k) × (f t ≡ true)) ⊎ ((t : ℕ) → t < k → f t ≡ false)
some_true f zero = inr (λ t lt. absurd (omega (arith, lt)))
some_true f (suc k) = go (f k) refl (some_true f k)
  where
    below_or : (t : ℕ) → t < suc k → (t < k) ⊎ (t ≡ k)
    below_or t lt = grind (arith, lt)

    go : (b : Bool) → f k ≡ b → ((t : ℕ) × (t < k) × (f t ≡ true)) ⊎ ((t : ℕ) → t < k → f t ≡ false)
        → ((t : ℕ) × (t < suc k) × (f t ≡ true)) ⊎ ((t : ℕ) → t < suc k → f t ≡ false)
    go b e (inl (t, lt, is)) = inl (t, omega (arith, lt), is)
    go true e (inr none) = inl (k, omega arith, e)
    go false e (inr none) = inr (λ t lt. none_more f k none e t (below_or t lt))

-- ---- the run that an assignment names

module _ (raw : Raw) (circuit : IsCircuit raw) (order : List ℕ) (canonical : IsCanonicalOrder (from_any_state raw) order)
    (k p : ℕ) (property : p < length raw.bad) (a : ℕ → Bool)
    (h : Satisfies a (formula_of raw order (induction k p)).clauses) where
  abbrev free : Raw
  free = from_any_state raw

  abbrev all : Raw
  all = unrolled free order (k + 1)

  any : IsCircuit free
  any = from_any_circuit raw circuit

  abbrev literal_at : ℕ → ℕ
  literal_at t = slice_index all.bad (t * length raw.bad + p)

  abbrev reached : List ℕ
  reached = goals all (length raw.bad) (k + 1) p

  abbrev starts : List ℕ
  starts = start_literals (induction k p) raw

  abbrev kept_gates : List Gate
  kept_gates = cone reached all.gates

  abbrev row : List Tern
  row = values_of free (k + 1) a

  abbrev rows : List (List Tern)
  rows = rows_in free (k + 1) row

  abbrev start : List Tern
  start = start_in free (k + 1) row

  wide : length row ≡ input_count free (k + 1)
  wide = wide_values free any order canonical (k + 1) a

  run : IsRun free (k + 1) start rows
  run = run_in free (k + 1) row wide

  met : (meets a (1 ∷ []) ≡ true) × (meets a reached ≡ true)
      × Satisfies a (flat_map (implies starts) (all_but_last reached)) × Satisfies a (flat_map gate_clauses kept_gates)
  met =
      let first = flat_map (implies starts) (all_but_last reached) in
      let gates = flat_map gate_clauses kept_gates in
      let (low, rest) = and_parts (meets a (1 ∷ [])) (list_all (meets a) (reached ∷ first ++ gates)) h in
      let (some, more) = and_parts (meets a reached) (list_all (meets a) (first ++ gates)) rest in
      let (implied, each) = satisfies_parts a first gates more in (low, some, implied, each)

  literal_is : (t : ℕ) → t < k + 1 → slice_get all.bad (t * length raw.bad + p) ≡ Some (literal_at t)
  literal_is t below = bad_at free any order canonical (k + 1) t p below property

  -- the bad literals have the values that the assignment says
  assigns : (t : ℕ) → t < k + 1 → (w : Tern) → Value all [] (row ∷ []) 0 (literal_at t) w → w ≡ tern_of (is_true a (literal_at t))
  assigns t below w v = goal_value free any order canonical (k + 1) p a met.0 met.3 t w below v

  true_there : (t : ℕ) → t < k + 1 → MakesBad free order (k + 1) row t p → is_true a (literal_at t) ≡ true
  true_there t below (g, stands, v) =
      let same : g ≡ literal_at t = (let e : Some g ≡ Some (literal_at t) = sym stands ∙ literal_is t below in cc) in
      one_is (is_true a (literal_at t))
      (assigns t below One (subst (λ (l : ℕ). Value all [] (row ∷ []) 0 l One) same v))
    where
      one_is : (b : Bool) → One ≡ tern_of b → b ≡ true
      one_is true e = refl
      one_is false e = cc

  made_there : (t : ℕ) → t < k + 1 → is_true a (literal_at t) ≡ true → MakesBad free order (k + 1) row t p
  made_there t below one =
      let (w, v) = valued free any order canonical (k + 1) row wide (literal_at t)
      (bad_in_range free any order canonical (k + 1) t p below property) in (
        literal_at t,
        literal_is t below,
        subst (λ (u : Tern). Value all [] (row ∷ []) 0 (literal_at t) u) (assigns t below w v ∙ ap tern_of one) v,
      )

  bad_is : slice_get raw.bad p ≡ Some (get_or raw.bad p 0)
  bad_is = slice_get-get_or raw.bad p 0 property

  in_row : (t : ℕ) → t < k + 1 → MakesBad free order (k + 1) row t p ↔ ReachesBad free start rows t (get_or raw.bad p 0)
  in_row t below = reaches_in_row free any order canonical (k + 1) row wide t p (get_or raw.bad p 0) below bad_is

  -- the start obeys the resets if a bad literal before the last one is true
  obeys : (t : ℕ) → t < k → is_true a (literal_at t) ≡ true → IsAllowed raw start
  obeys t below one i x w at stands =
      let before = frames (λ s. literal_at s ∷ []) k in
      let (j, here) = frames_at (λ s. literal_at s ∷ []) k t 0 (literal_at t) below refl in
      let holds = implied_at a starts before j (literal_at t)
      (subst (λ (ls : List ℕ). Satisfies a (flat_map (implies starts) ls)) (goals_before raw circuit order canonical k p) met.2)
      here one in
      let cell = start_at raw circuit order canonical k p row start wide (fits_from_any raw start rows run.fits).latches refl i w stands in
      let n = (k + 1) * length raw.inputs in
      let inside = slice_get_within row (n + i) w cell in
      let e : 1 + (n + i) ≡ n + 1 + i = omega arith in
      all_allowed a (n + 1) raw.latches circuit.sound.resets holds i x w at
      (sym (get_or_from_slice_get row (n + i) w X cell)
      ∙ get_or-map-range_with_len (λ v. tern_of (a v)) 1 (input_count free (k + 1)) (n + i) (1 + (n + i)) X
      (omega (arith, inside, wide)) refl
      ∙ ap (λ v. tern_of (a v)) e)

  -- one of them is true
  last_true : ((t : ℕ) → t < k → is_true a (literal_at t) ≡ false) → is_true a (literal_at k) ≡ true
  last_true none =
      let (i, l, at, one) = one_met a reached met.1 in
      let (t, lt, is) = goal_frame literal_at (k + 1) i l at in
      go (before_or t lt) (ap (is_true a) (sym is) ∙ one)
    where
      before_or : (t : ℕ) → t < k + 1 → (t < k) ⊎ (t ≡ k)
      before_or t lt = grind (arith, lt)

      go : {t : ℕ} → (t < k) ⊎ (t ≡ k) → is_true a (literal_at t) ≡ true → is_true a (literal_at k) ≡ true
      go {t} (inl under) one = absurd (true_false (is_true a (literal_at t)) one (none t under))
      go {t} (inr same) one = subst (λ s. is_true a (literal_at s) ≡ true) same one

  reaches_at : (t : ℕ) → t < k + 1 → is_true a (literal_at t) ≡ true → ReachesBad raw start rows t (get_or raw.bad p 0)
  reaches_at t below one =
      reaches_from_any raw start rows t (get_or raw.bad p 0) ((in_row t below).0 (made_there t below one))

  pub disproves : DisprovesInduction raw k p start rows
  disproves = record {
    known = known_in free (k + 1) row wide any.sound.resets (values_known free any order canonical (k + 1) a);
    frames = run.frames;
    fails = go (some_true (λ t. is_true a (literal_at t)) k);
  }
    where
      go : ((t : ℕ) × (t < k) × (is_true a (literal_at t) ≡ true)) ⊎ ((t : ℕ) → t < k → is_true a (literal_at t) ≡ false)
          → ((t : ℕ) × (t < k) × ReachesProperty raw start rows t p) ⊎ BreaksStep raw k p start rows
      go (inl (t, below, one)) = inl (
        t,
        below,
        (
          fits_from_any raw start rows run.fits,
          obeys t below one,
          omega (arith, run.frames, below),
          (get_or raw.bad p 0, bad_is, reaches_at t (omega (arith, below)) one),
        ),
      )
      go (inr none) = inr (record {
        fits = fits_from_any raw start rows run.fits;
        known = known_in free (k + 1) row wide any.sound.resets (values_known free any order canonical (k + 1) a);
        frames = run.frames;
        bad = get_or raw.bad p 0;
        bad_is = bad_is;
        reached = reaches_at k (omega arith) (last_true none);
        none_before = λ t below r.
            true_false (is_true a (literal_at t))
            (true_there t (omega (arith, below)) ((in_row t (omega (arith, below))).1
            (reaches_any raw start rows t (get_or raw.bad p 0) r)))
            (none t below);
      })

disproved : (raw : Raw) (k p : ℕ) (start : List Tern) (rows : List (List Tern)) → DisprovesInduction raw k p start rows
    → IsReachedWithin raw k p ⊎ HasBrokenStep raw k p
disproved raw k p start rows h = go h.fails
  where
    go : ((t : ℕ) × (t < k) × ReachesProperty raw start rows t p) ⊎ BreaksStep raw k p start rows
        → IsReachedWithin raw k p ⊎ HasBrokenStep raw k p
    go (inl (t, below, reaches)) = inl (start, rows, t, below, reaches)
    go (inr breaks) = inr (start, rows, breaks)

pub induction_disproved : (raw : Raw) (formula : Cnf) (k p : ℕ) → IsCircuit raw → IsFormulaOf raw (induction k p) formula
    → p < length raw.bad → IsSatisfiable formula.clauses ↔ (IsReachedWithin raw k p ⊎ HasBrokenStep raw k p)
induction_disproved raw formula k p circuit (order, canonical, is) property =
    subst (λ (f : Cnf). IsSatisfiable f.clauses ↔ (IsReachedWithin raw k p ⊎ HasBrokenStep raw k p)) (sym is) (
      λ (a, h). disproved raw k p (step_start raw k a) (step_rows raw k a) (disproves raw circuit order canonical k p property a h),
      λ some. satisfiable some,
    )
  where
    satisfiable : IsReachedWithin raw k p ⊎ HasBrokenStep raw k p → IsSatisfiable (formula_of raw order (induction k p)).clauses
    satisfiable (inl reached) = reached_satisfies raw circuit order canonical k p reached
    satisfiable (inr broken) = broken_satisfies raw circuit order canonical k p broken
