-- Some assignment satisfies the formula of a bad state within k frames exactly where a run reaches it within them.
use Rattle.std.proofs.Common.{◌≡◌, ◌≢◌, ◌↔◌, ℕ, ◌+◌, ◌-◌, ◌<◌, Bool, List, [], ◌∷◌, length, map, take, Some, slice_get}
use Rattle.std.proofs.Common.{get_or}
use Rattle.std.proofs.Common.{refl, sym, ◌∙◌, ap, subst, arith}
use Rattle.std.proofs.lemmas.List.{length-take-le, get_or-take}
use Rattle.std.proofs.lemmas.List.Elements.{All-take}
use Rattle.std.proofs.lemmas.Option.{slice_get-get_or, slice_get_within}
use Rattle.aig_parts.specs.declared.raw.Raw.{Raw}
use Rattle.aig_parts.specs.declared.ternary.Tern.{Tern}
use Rattle.aig_parts.specs.declared.ternary.Tern.TheVariants.{Zero}
use Rattle.aig_base.specs.Circuit.{IsCircuit}
use Rattle.aig_base.specs.Order.{IsCanonicalOrder}
use Rattle.aig_base.specs.Runs.{ReachesProperty}
use Rattle.aig_cnf.specs.Formula.{Cnf, IsFormulaOf, formula_of}
use Rattle.aig_cnf.specs.Query.{within}
use Rattle.aig_sat.specs.checker.Clause.{Satisfies}
use Rattle.aig_sim.specs.Reached.{witness_at}
use Rattle.aig_sim.specs.WitnessText.{Witness}
use Rattle.aig_refute.specs.Models.{AreKnown, values_of}
use Rattle.aig_refute.specs.Satisfiable.{HasKnownWitness, IsKnownRun, IsKnownWitness, IsNamedWitness, IsReachedWithin}
use Rattle.aig_refute.specs.Satisfiable.{IsSatisfiable}
use Rattle.aig_refute.specs.UnrolledWitness.{rows_in, start_in, witness_in, IsConfirmedWithin}
use Rattle.aig_refute.proofs.BadFormula.{in_model, reaches, values_known, wide_values}
use Rattle.aig_refute.proofs.Reached.{confirms_reached}
use Rattle.aig_refute.proofs.SettledRows.{length_settled, makes_settled, settled, settled_known}
use Rattle.aig_refute.proofs.UnrolledRows.{known_in, run_in}
use Rattle.aig_refute.proofs.UnrolledWitnesses.{filled_row_known, in_filled_row, in_row, reaches_in_row}

-- ---- the witness that a run reaches the property

pub confirmed_at : (raw : Raw) → IsCircuit raw → (k : ℕ) (start : List Tern) (rows : List (List Tern)) (t p : ℕ)
    → t < k → ReachesProperty raw start rows t p → IsConfirmedWithin raw k (witness_at start rows t p)
confirmed_at raw circuit k start rows t p below (fits, allowed, lt, (b, at, reaches)) =
    let short : length (take (t + 1) rows) ≡ t + 1 = length-take-le (t + 1) rows (omega arith) in
    record {
      fits = record {
        latches = fits.latches;
        inputs = λ n d under.
            ap length (get_or-take (t + 1) rows n d (omega (arith, short, under)))
            ∙ fits.inputs n d (omega (arith, short, under, lt));
      };
      some = λ e. omega (arith, short, ap length e);
      frames = omega (arith, short, below);
      property = slice_get_within raw.bad p b at;
      confirmed = (confirms_reached raw circuit start rows fits allowed t p b lt at).0 reaches;
    }

some_frame : (rows : List (List Tern)) → rows ≢ [] → 0 < length rows
some_frame [] some = absurd (some refl)
some_frame (r ∷ rows) some = omega arith

module _ (raw : Raw) (circuit : IsCircuit raw) (order : List ℕ) (canonical : IsCanonicalOrder raw order) (k p : ℕ) where
  abbrev clauses : List (List ℕ)
  clauses = (formula_of raw order (within k p)).clauses

  -- ---- from an assignment to a run without unknown values

  module _ (property : p < length raw.bad) (a : ℕ → Bool) (h : Satisfies a clauses) where
    start : List Tern
    start = start_in raw k (values_of raw k a)

    rows : List (List Tern)
    rows = rows_in raw k (values_of raw k a)

    known : IsKnownRun start rows
    unfolding start rows
    known = known_in raw k (values_of raw k a) (wide_values raw circuit order canonical k a) circuit.sound.resets
        (values_known raw circuit order canonical k a)

    found : (t : ℕ) × (t < k) × ReachesProperty raw start rows t p
    unfolding start rows
    found =
        let (t, lt, made) = reaches raw circuit order canonical k p a property h in
        let wide = wide_values raw circuit order canonical k a in
        let run = run_in raw k (values_of raw k a) wide in
        let b = get_or raw.bad p 0 in
        let at : slice_get raw.bad p ≡ Some b = slice_get-get_or raw.bad p 0 property in (
          t,
          lt,
          (
            run.fits,
            run.allowed,
            omega (arith, run.frames, lt),
            (b, at, (reaches_in_row raw circuit order canonical k (values_of raw k a) wide t p b lt at).0 made),
          ),
        )

    known_witness : HasKnownWitness raw k p
    known_witness =
        let (t, lt, reached) = found in (
          witness_at start rows t p,
          record {
            confirmed = confirmed_at raw circuit k start rows t p lt reached;
            property_is = refl;
            known = record {
              start_known = known.start_known;
              rows_known = All-take AreKnown (t + 1) rows known.rows_known;
            };
          },
        )

  -- ---- from a witness to an assignment

  last_frame : (w : Witness) → IsConfirmedWithin raw k w → length w.rows - 1 < k
  last_frame w h = omega (arith, some_frame w.rows h.some, h.frames)

  satisfiable_by : (w : Witness) → IsConfirmedWithin raw k w → w.property ≡ p → IsSatisfiable clauses
  satisfiable_by w h is =
      let (row, wide, same, made) = in_row raw circuit order canonical k w h in
      let (values, satisfies, row_is) = in_model raw circuit order canonical k (map settled row)
      (length_settled row ∙ wide) (settled_known row) (length w.rows - 1) w.property (last_frame w h) h.property
      (makes_settled raw order k row (length w.rows - 1) w.property made) in
      subst (λ (q : ℕ). IsSatisfiable (formula_of raw order (within k q)).clauses) is (values, satisfies)

  -- one without unknown values, which has 0 after its last frame
  pub each_named : (w : Witness) → IsKnownWitness raw k p w → IsNamedWitness raw order k w
  each_named w is =
      let h = is.confirmed in
      let filled = in_filled_row raw circuit order canonical k w h Zero in
      let (values, satisfies, row_is) = in_model raw circuit order canonical k filled.0 filled.1
      (filled_row_known raw circuit order canonical k w h Zero (λ e. let no : ⊥ = cc in no) is.known) (length w.rows - 1) w.property
      (last_frame w h) h.property filled.3 in (
        values,
        satisfies,
        ap (λ (row : List Tern). witness_in raw k (length w.rows - 1) w.property row) row_is ∙ filled.2,
      )

  exactly_reached : p < length raw.bad → IsSatisfiable clauses ↔ IsReachedWithin raw k p
  exactly_reached property = (
    λ (a, h). let (t, lt, reached) = found property a h in (start property a h, rows property a h, t, lt, reached),
    λ (start, rows, t, lt, reached). satisfiable_by (witness_at start rows t p)
        (confirmed_at raw circuit k start rows t p lt reached) refl,
  )

  exactly_witnessed : p < length raw.bad → IsSatisfiable clauses ↔ HasKnownWitness raw k p
  exactly_witnessed property = (
    λ (a, h). known_witness property a h,
    λ (w, known). satisfiable_by w known.confirmed known.property_is,
  )

module _ (raw : Raw) (formula : Cnf) (k p : ℕ) (circuit : IsCircuit raw) where
  pub within_reached : IsFormulaOf raw (within k p) formula → p < length raw.bad
      → IsSatisfiable formula.clauses ↔ IsReachedWithin raw k p
  within_reached (order, canonical, is) property =
      subst (λ (f : Cnf). IsSatisfiable f.clauses ↔ IsReachedWithin raw k p) (sym is)
      (exactly_reached raw circuit order canonical k p property)

  pub within_witnessed : IsFormulaOf raw (within k p) formula → p < length raw.bad
      → IsSatisfiable formula.clauses ↔ HasKnownWitness raw k p
  within_witnessed (order, canonical, is) property =
      subst (λ (f : Cnf). IsSatisfiable f.clauses ↔ HasKnownWitness raw k p) (sym is)
      (exactly_witnessed raw circuit order canonical k p property)
