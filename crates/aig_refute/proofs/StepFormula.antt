-- Some assignment satisfies the formula of the step of k frames exactly where a run from any state reaches the bad
-- state at frame k and at no frame before.
use Rattle.std.proofs.Common.{◌≡◌, ◌↔◌, ℕ, ◌+◌, ◌*◌, ◌<◌, Bool, true, false, List, [], ◌∷◌, ◌++◌, length, flat_map}
use Rattle.std.proofs.Common.{Some, slice_get, slice_index, get_or}
use Rattle.std.proofs.Common.{refl, sym, ◌∙◌, ap, subst, arith}
use Rattle.std.specs.List.{list_all}
use Rattle.std.proofs.lemmas.Option.{slice_get-get_or, slice_get_within}
use Rattle.std.proofs.lemmas.Bool.{and_parts}
use Rattle.aig_cnf.proofs.AddedLemmas.{satisfies_parts}
use Rattle.aig_parts.specs.declared.raw.Raw.{Raw}
use Rattle.aig_parts.specs.declared.ternary.Tern.{Tern}
use Rattle.aig_parts.specs.declared.ternary.Tern.TheVariants.{One}
use Rattle.aig_base.specs.Circuit.{IsCircuit}
use Rattle.aig_base.specs.Order.{IsCanonicalOrder}
use Rattle.aig_base.specs.Runs.{ReachesBad}
use Rattle.aig_base.specs.Value.{Value}
use Rattle.aig_cnf.specs.Formula.{Cnf, IsFormulaOf, cone, first_reached, formula_of, gate_clauses, goals}
use Rattle.aig_cnf.specs.Query.{from_any_state, step}
use Rattle.aig_sat.specs.checker.Clause.{is_true, meets, Satisfies}
use Rattle.aig_refute.specs.Models.{AreKnown, tern_of, values_of}
use Rattle.aig_refute.specs.Satisfiable.{BreaksStep, HasBrokenStep, IsKnownRun, IsNamedStep, IsSatisfiable, step_rows}
use Rattle.aig_refute.specs.Satisfiable.{step_start}
use Rattle.aig_refute.specs.UnrolledWitness.{rows_in, start_in, IsRun, MakesBad}
use Rattle.aig_cnf.proofs.AnyCircuit.{from_any_circuit}
use Rattle.aig_refute.proofs.AnyState.{any_allowed, any_fits, fits_from_any, reaches_any, reaches_from_any}
use Rattle.aig_refute.proofs.BadFormula.{bad_at, bad_in_range, formula_met, goal_value, in_model, valued, values_known}
use Rattle.aig_refute.proofs.BadFormula.{wide_values}
use Rattle.aig_refute.proofs.FirstReached.{at_reached, reached_at, satisfies_both}
use Rattle.aig_refute.proofs.Tseitin.{both_and}
use Rattle.aig_refute.proofs.UnrolledRows.{known_in, row_known, row_of_run, row_wide, run_in}
use Rattle.aig_refute.proofs.UnrolledWitnesses.{made_bad_in, reaches_in_row}
use Rattle.aig_unroll.specs.FrameLiteral.{input_count}
use Rattle.aig_unroll.specs.Unrolled.{unrolled}
use Rattle.aig_unroll.specs.UnrolledValues.{unrolled_row}

true_of_one : (x : Bool) → One ≡ tern_of x → x ≡ true
true_of_one true e = refl
true_of_one false e = cc

true_false : (x : Bool) → x ≡ true → x ≡ false → ⊥
true_false true e f = cc
true_false false e f = cc

module _ (raw : Raw) (circuit : IsCircuit raw) (order : List ℕ) (canonical : IsCanonicalOrder (from_any_state raw) order)
    (k p : ℕ) (property : p < length raw.bad) where
  abbrev free : Raw
  free = from_any_state raw

  abbrev all : Raw
  all = unrolled free order (k + 1)

  any : IsCircuit free
  any = from_any_circuit raw circuit

  -- the bad literal of a frame
  literal_at : ℕ → ℕ
  literal_at t = slice_index all.bad (t * length raw.bad + p)

  literal_is : (t : ℕ) → t < k + 1 → slice_get all.bad (t * length raw.bad + p) ≡ Some (literal_at t)
  unfolding literal_at
  literal_is t below = bad_at free any order canonical (k + 1) t p below property

  -- ---- an assignment that gives each bad literal the value that a row gives it

  module _ (row : List Tern) (wide : length row ≡ input_count free (k + 1)) (a : ℕ → Bool)
      (is : (t : ℕ) (w : Tern) → t < k + 1 → Value all [] (row ∷ []) 0 (literal_at t) w → w ≡ tern_of (is_true a (literal_at t))) where
    -- it makes the bad literal of a frame true exactly where the row makes it 1
    true_there : (t : ℕ) → t < k + 1 → MakesBad free order (k + 1) row t p → is_true a (literal_at t) ≡ true
    true_there t below (g, stands, v) =
        let same : g ≡ literal_at t = (let e : Some g ≡ Some (literal_at t) = sym stands ∙ literal_is t below in cc) in
        true_of_one (is_true a (literal_at t))
        (is t One below (subst (λ (l : ℕ). Value all [] (row ∷ []) 0 l One) same v))

    value_there : (t : ℕ) → t < k + 1 → (w : Tern) × Value all [] (row ∷ []) 0 (literal_at t) w
    unfolding literal_at
    value_there t below = valued free any order canonical (k + 1) row wide (literal_at t)
        (bad_in_range free any order canonical (k + 1) t p below property)

    made_there : (t : ℕ) → t < k + 1 → is_true a (literal_at t) ≡ true → MakesBad free order (k + 1) row t p
    made_there t below one =
        let (w, v) = value_there t below in (
          literal_at t,
          literal_is t below,
          subst (λ (u : Tern). Value all [] (row ∷ []) 0 (literal_at t) u) (is t w below v ∙ ap tern_of one) v,
        )

  -- ---- from an assignment to a run

  module _ (a : ℕ → Bool) (h : Satisfies a (formula_of raw order (step k p)).clauses) where
    row : List Tern
    row = values_of free (k + 1) a

    wide : length row ≡ input_count free (k + 1)
    unfolding row
    wide = wide_values free any order canonical (k + 1) a

    start : List Tern
    start = start_in free (k + 1) row

    rows : List (List Tern)
    rows = rows_in free (k + 1) row

    run : IsRun free (k + 1) start rows
    unfolding start rows
    run = run_in free (k + 1) row wide

    met : (meets a (1 ∷ []) ≡ true) × (Satisfies a (first_reached (goals all (length raw.bad) (k + 1) p))
        × Satisfies a (flat_map gate_clauses (cone (goals all (length raw.bad) (k + 1) p) all.gates)))
    met =
        let first = first_reached (goals all (length raw.bad) (k + 1) p) in
        let gates = flat_map gate_clauses (cone (goals all (length raw.bad) (k + 1) p) all.gates) in
        let (low, rest) = and_parts (meets a (1 ∷ [])) (list_all (meets a) (first ++ gates)) h in
        (low, satisfies_parts a first gates rest)

    assigns : (t : ℕ) (w : Tern) → t < k + 1 → Value all [] (row ∷ []) 0 (literal_at t) w → w ≡ tern_of (is_true a (literal_at t))
    unfolding row literal_at
    assigns t w below v = goal_value free any order canonical (k + 1) p a met.0 met.1.1 t w below v

    goal : ((t : ℕ) → t < k → is_true a (literal_at t) ≡ false) × (is_true a (literal_at k) ≡ true)
    unfolding literal_at
    goal = at_reached a literal_at k met.1.0

    bad_is : slice_get raw.bad p ≡ Some (get_or raw.bad p 0)
    bad_is = slice_get-get_or raw.bad p 0 property

    in_row : (t : ℕ) → t < k + 1 → MakesBad free order (k + 1) row t p ↔ ReachesBad free start rows t (get_or raw.bad p 0)
    unfolding start rows
    in_row t below = reaches_in_row free any order canonical (k + 1) row wide t p (get_or raw.bad p 0) below bad_is

    known : IsKnownRun start rows
    unfolding start rows row
    known = known_in free (k + 1) (values_of free (k + 1) a) (wide_values free any order canonical (k + 1) a)
        any.sound.resets (values_known free any order canonical (k + 1) a)

    breaks : BreaksStep raw k p start rows
    breaks = record {
      fits = fits_from_any raw start rows run.fits;
      known = known;
      frames = run.frames;
      bad = get_or raw.bad p 0;
      bad_is = bad_is;
      reached = reaches_from_any raw start rows k (get_or raw.bad p 0)
          ((in_row k (omega arith)).0 (made_there row wide a assigns k (omega arith) goal.1));
      none_before = λ t below r.
          true_false (is_true a (literal_at t))
          (true_there row wide a assigns t (omega (arith, below))
          ((in_row t (omega (arith, below))).1 (reaches_any raw start rows t (get_or raw.bad p 0) r)))
          (goal.0 t below);
    }

    pub names_broken_step : BreaksStep raw k p (step_start raw k a) (step_rows raw k a)
    unfolding start rows row
    names_broken_step = breaks

  -- ---- from a run to an assignment

  module _ (start : List Tern) (rows : List (List Tern)) (h : BreaksStep raw k p start rows) where
    run_of : IsRun free (k + 1) start rows
    run_of = record {
      frames = h.frames;
      fits = any_fits raw start rows h.fits;
      allowed = any_allowed raw start;
    }

    row_of : List Tern
    row_of = unrolled_row free start rows

    wide_of : length row_of ≡ input_count free (k + 1)
    unfolding row_of
    wide_of = row_wide free (k + 1) start rows run_of

    in_row_of : (t : ℕ) → t < k + 1 → MakesBad free order (k + 1) row_of t p ↔ ReachesBad free start rows t h.bad
    unfolding row_of
    in_row_of t below = made_bad_in free any order canonical (k + 1) (unrolled_row free start rows) start rows h.frames refl
        run_of.fits run_of.allowed t p h.bad below h.bad_is

    made : MakesBad free order (k + 1) row_of k p
    made = (in_row_of k (omega arith)).1 (reaches_any raw start rows k h.bad h.reached)

    not_made : (t : ℕ) → t < k → MakesBad free order (k + 1) row_of t p → ⊥
    not_made t below m =
        h.none_before t below (reaches_from_any raw start rows t h.bad ((in_row_of t (omega (arith, below))).0 m))

    row_of_known : AreKnown row_of
    unfolding row_of
    row_of_known = row_known free start rows h.known

    silent : (b : Bool) → (b ≡ true → ⊥) → b ≡ false
    silent true never = absurd (never refl)
    silent false never = refl

    met_by : (a : ℕ → Bool)
        → ((t : ℕ) (w : Tern) → t < k + 1 → Value all [] (row_of ∷ []) 0 (literal_at t) w → w ≡ tern_of (is_true a (literal_at t)))
        → Satisfies a (first_reached (goals all (length raw.bad) (k + 1) p))
    unfolding literal_at
    met_by a is = reached_at a literal_at k
        (λ t below. silent (is_true a (literal_at t))
        (λ one. not_made t below (made_there row_of wide_of a is t (omega (arith, below)) one)))
        (true_there row_of wide_of a is k (omega arith) made)

    named : IsNamedStep raw order k p start rows
    unfolding row_of literal_at
    named =
        let holds = row_of_run free (k + 1) start rows run_of in
        let (a, sat, row_is) = in_model free any order canonical (k + 1) row_of wide_of row_of_known k p (omega arith) property made in
        let (first, goal, gates) = formula_met free order (k + 1) p a sat in
        let is : (t : ℕ) (w : Tern) → t < k + 1 → Value all [] (row_of ∷ []) 0 (literal_at t) w → w ≡ tern_of (is_true a (literal_at t)) =
        (λ t w below v. goal_value free any order canonical (k + 1) p a first gates t w below
        (subst (λ (r : List Tern). Value all [] (r ∷ []) 0 (literal_at t) w) (sym row_is) v)) in (
          a,
          both_and first (satisfies_both a (first_reached (goals all (length raw.bad) (k + 1) p))
              (flat_map gate_clauses (cone (goals all (length raw.bad) (k + 1) p) all.gates)) (met_by a is) gates),
          ap (λ (r : List Tern). start_in free (k + 1) r) row_is ∙ holds.start_is,
          ap (λ (r : List Tern). rows_in free (k + 1) r) row_is ∙ holds.rows_are,
        )

  exactly : IsSatisfiable (formula_of raw order (step k p)).clauses ↔ HasBrokenStep raw k p
  exactly = (
    λ (a, h). (start a h, rows a h, breaks a h),
    λ (start, rows, h). let (values, satisfies, start_is, rows_are) = named start rows h in (values, satisfies),
  )

pub step_broken : (raw : Raw) (formula : Cnf) (k p : ℕ) → IsCircuit raw → IsFormulaOf raw (step k p) formula
    → p < length raw.bad → IsSatisfiable formula.clauses ↔ HasBrokenStep raw k p
step_broken raw formula k p circuit (order, canonical, is) property =
    subst (λ (f : Cnf). IsSatisfiable f.clauses ↔ HasBrokenStep raw k p) (sym is)
    (exactly raw circuit order canonical k p property)

pub each_named : (raw : Raw) → IsCircuit raw → (order : List ℕ) → IsCanonicalOrder (from_any_state raw) order → (k p : ℕ)
    (start : List Tern) (rows : List (List Tern)) → BreaksStep raw k p start rows → IsNamedStep raw order k p start rows
each_named raw circuit order canonical k p start rows h =
    named raw circuit order canonical k p (slice_get_within raw.bad p h.bad h.bad_is) start rows h
