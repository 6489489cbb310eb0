-- Some assignment satisfies the formula of a bad state at the last of k frames exactly where a run reaches it there.
use Rattle.std.proofs.Common.{◌≡◌, ◌↔◌, ℕ, zero, suc, ◌+◌, ◌-◌, ◌*◌, ◌<◌, Bool, true, false, ◌&&◌, ◌||◌, List, [], ◌∷◌}
use Rattle.std.proofs.Common.{◌++◌, length, map, drop, flat_map, Some, slice_get, slice_index, get_or}
use Rattle.std.proofs.Common.{refl, sym, ◌∙◌, ap, subst, arith, length-append}
use Rattle.std.specs.List.{list_all}
use Rattle.std.proofs.Math.Seq.{drop-append_seam}
use Rattle.std.proofs.lemmas.List.{length-take-le}
use Rattle.std.proofs.lemmas.Option.{slice_get-get_or}
use Rattle.std.proofs.lemmas.Bool.{and_parts}
use Rattle.aig_parts.specs.declared.raw.Raw.{Raw}
use Rattle.aig_parts.specs.declared.ternary.Tern.{Tern}
use Rattle.aig_parts.specs.declared.ternary.Tern.TheVariants.{One}
use Rattle.aig_base.specs.Circuit.{IsCircuit}
use Rattle.aig_base.specs.Order.{IsCanonicalOrder}
use Rattle.aig_base.specs.Value.{Value}
use Rattle.aig_cnf.specs.Formula.{Cnf, IsFormulaOf, cone, formula_of, gate_clauses, goals, last_alone}
use Rattle.aig_cnf.specs.Query.{last}
use Rattle.aig_sat.specs.checker.Clause.{is_true, meets, Satisfies}
use Rattle.aig_sim.specs.Reached.{witness_at}
use Rattle.aig_sim.specs.WitnessText.{Witness}
use Rattle.aig_refute.specs.Models.{tern_of, values_of}
use Rattle.aig_refute.specs.Satisfiable.{IsReachedAt, IsSatisfiable}
use Rattle.aig_refute.specs.UnrolledWitness.{rows_in, start_in, IsConfirmedWithin, MakesBad}
use Rattle.aig_refute.proofs.BadFormula.{bad_at, bad_in_range, formula_met, goal_value, in_model, valued, wide_values}
use Rattle.aig_refute.proofs.SettledRows.{length_settled, makes_settled, settled, settled_known}
use Rattle.aig_refute.proofs.Tseitin.{both_and, meets_one}
use Rattle.aig_refute.proofs.UnrolledRows.{run_in}
use Rattle.aig_refute.proofs.UnrolledWitnesses.{in_row, reaches_in_row}
use Rattle.aig_refute.proofs.WithinFormula.{confirmed_at}
use Rattle.aig_unroll.specs.Unrolled.{frames, unrolled}

-- ---- the last of some literals

alone : (xs : List ℕ) (x : ℕ) → last_alone (xs ++ x ∷ []) ≡ x ∷ []
alone xs x =
    let size : length (xs ++ x ∷ []) - 1 ≡ length xs = omega (arith, length-append xs (x ∷ [])) in
    ap (λ n. drop n (xs ++ x ∷ [])) size ∙ drop-append_seam xs (x ∷ [])

-- one per frame
last_frame : (f : ℕ → ℕ) (k : ℕ) → 0 < k → last_alone (frames (λ t. f t ∷ []) k) ≡ f (k - 1) ∷ []
last_frame f zero some = absurd (omega (arith, some))
last_frame f (suc k) some =
    let e : k ≡ suc k - 1 = omega arith in alone (frames (λ t. f t ∷ []) k) (f k) ∙ ap (λ n. f n ∷ []) e

only : (b : Bool) → (b || false) ≡ true → b ≡ true
only true e = refl
only false e = cc

true_of_one : (x : Bool) → One ≡ tern_of x → x ≡ true
true_of_one true e = refl
true_of_one false e = cc

module _ (raw : Raw) (circuit : IsCircuit raw) (order : List ℕ) (canonical : IsCanonicalOrder raw order) (k : ℕ) (some : 0 < k)
    (p : ℕ) (property : p < length raw.bad) where
  abbrev all : Raw
  all = unrolled raw order k

  abbrev clauses : List (List ℕ)
  clauses = (formula_of raw order (last k p)).clauses

  abbrev literals : List ℕ
  literals = goals all (length raw.bad) k p

  -- the bad literal of a frame
  literal_at : ℕ → ℕ
  literal_at t = slice_index all.bad (t * length raw.bad + p)

  last_is : last_alone literals ≡ literal_at (k - 1) ∷ []
  unfolding literal_at
  last_is = last_frame literal_at k some

  below : k - 1 < k
  below = omega (arith, some)

  b : ℕ
  b = get_or raw.bad p 0

  at : slice_get raw.bad p ≡ Some b
  unfolding b
  at = slice_get-get_or raw.bad p 0 property

  -- ---- from an assignment to a run

  module _ (a : ℕ → Bool) (h : Satisfies a clauses) where
    row : List Tern
    row = values_of raw k a

    met : (meets a (1 ∷ []) ≡ true) × (meets a (last_alone literals) ≡ true)
        × Satisfies a (flat_map gate_clauses (cone literals all.gates))
    met =
        let goal = meets a (last_alone literals) in
        let gates = list_all (meets a) (flat_map gate_clauses (cone literals all.gates)) in
        let (low, rest) = and_parts (meets a (1 ∷ [])) (goal && gates) h in
        let (one, each) = and_parts goal gates rest in (low, one, each)

    goal : is_true a (literal_at (k - 1)) ≡ true
    goal = only (is_true a (literal_at (k - 1))) (subst (λ (c : List ℕ). meets a c ≡ true) last_is met.1)

    made : MakesBad raw order k row (k - 1) p
    unfolding row literal_at
    made =
        let (w, v) = valued raw circuit order canonical k (values_of raw k a) (wide_values raw circuit order canonical k a)
        (literal_at (k - 1)) (bad_in_range raw circuit order canonical k (k - 1) p below property) in
        let one : w ≡ One =
        goal_value raw circuit order canonical k p a met.0 met.2 (k - 1) w below v ∙ ap tern_of goal in (
          literal_at (k - 1),
          bad_at raw circuit order canonical k (k - 1) p below property,
          subst (λ (u : Tern). Value all [] (values_of raw k a ∷ []) 0 (literal_at (k - 1)) u) one v,
        )

    found : IsReachedAt raw (k - 1) p
    unfolding row
    found =
        let wide = wide_values raw circuit order canonical k a in
        let run = run_in raw k (values_of raw k a) wide in (
          start_in raw k (values_of raw k a),
          rows_in raw k (values_of raw k a),
          (
            run.fits,
            run.allowed,
            omega (arith, run.frames, below),
            (b, at, (reaches_in_row raw circuit order canonical k (values_of raw k a) wide (k - 1) p b below at).0 made),
          ),
        )

  -- ---- from a run to an assignment

  satisfied : IsReachedAt raw (k - 1) p → IsSatisfiable clauses
  unfolding literal_at
  satisfied (start, rows, reached) =
      let w : Witness = witness_at start rows (k - 1) p in
      let h : IsConfirmedWithin raw k w = confirmed_at raw circuit k start rows (k - 1) p below reached in
      let short : length w.rows ≡ k - 1 + 1 = length-take-le (k - 1 + 1) rows (omega (arith, reached.2)) in
      let frame : length w.rows - 1 ≡ k - 1 = omega (arith, short) in
      let (r, wide, same, made_there) = in_row raw circuit order canonical k w h in
      let made_here : MakesBad raw order k (map settled r) (k - 1) p =
      makes_settled raw order k r (k - 1) p (subst (λ (t : ℕ). MakesBad raw order k r t p) frame made_there) in
      let (values, satisfies, row_is) = in_model raw circuit order canonical k (map settled r) (length_settled r ∙ wide)
      (settled_known r) (k - 1) p below property made_here in
      let (low, one_of, gates) = formula_met raw order k p values satisfies in
      let (g, stands, v) = made_here in
      let g_is : g ≡ literal_at (k - 1) =
      (let e : Some g ≡ Some (literal_at (k - 1)) = sym stands ∙ bad_at raw circuit order canonical k (k - 1) p below property in cc) in
      let here : Value all [] (values_of raw k values ∷ []) 0 (literal_at (k - 1)) One =
      subst (λ (ws : List Tern). Value all [] (ws ∷ []) 0 (literal_at (k - 1)) One) (sym row_is)
      (subst (λ (l : ℕ). Value all [] (map settled r ∷ []) 0 l One) g_is v) in
      let goal_true : is_true values (literal_at (k - 1)) ≡ true =
      true_of_one (is_true values (literal_at (k - 1)))
      (goal_value raw circuit order canonical k p values low gates (k - 1) One below here) in (
        values,
        both_and low (both_and
            (subst (λ (c : List ℕ). meets values c ≡ true) (sym last_is)
            (meets_one values (literal_at (k - 1) ∷ []) 0 (literal_at (k - 1)) refl goal_true)) gates),
      )

  pub exactly : IsSatisfiable clauses ↔ IsReachedAt raw (k - 1) p
  exactly = (λ (a, h). found a h, λ reached. satisfied reached)

pub last_reached : (raw : Raw) (formula : Cnf) (k p : ℕ) → IsCircuit raw → IsFormulaOf raw (last k p) formula → 0 < k
    → p < length raw.bad → IsSatisfiable formula.clauses ↔ IsReachedAt raw (k - 1) p
last_reached raw formula k p circuit (order, canonical, is) some property =
    subst (λ (f : Cnf). IsSatisfiable f.clauses ↔ IsReachedAt raw (k - 1) p) (sym is)
    (exactly raw circuit order canonical k some p property)
