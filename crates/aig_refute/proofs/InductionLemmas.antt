-- No run of any length reaches a bad state, where no assignment satisfies its formula and that of the step.
use Rattle.std.proofs.Common.{◌≡◌, ◌≢◌, ◌⊎◌, inl, inr, ℕ, zero, suc, ◌+◌, ◌-◌, ◌<◌, ◌≤◌, List, [], ◌∷◌, length, map}
use Rattle.std.proofs.Common.{take, drop}
use Rattle.std.proofs.Common.{Contains, Some, slice_get, get_or, refl, sym, ◌∙◌, ap, subst, arith, length-drop}
use Rattle.std.specs.List.{AllZip}
use Rattle.std.proofs.lemmas.List.{length-take-le, length-map}
use Rattle.std.proofs.lemmas.Option.{slice_get-map, slice_get-get_or, slice_get_within, get_or_from_slice_get}
use Rattle.aig_parts.specs.declared.latch.Latch.{Latch}
use Rattle.aig_parts.specs.declared.raw.Raw.{Raw}
use Rattle.aig_parts.specs.declared.ternary.Tern.{Tern}
use Rattle.aig_parts.specs.declared.ternary.Tern.TheVariants.{One, X}
use Rattle.aig_base.specs.Circuit.{IsCircuit}
use Rattle.aig_base.specs.Completion.{Completes, IsCompletion}
use Rattle.aig_base.specs.Runs.{IsAllowed, ReachesBad}
use Rattle.aig_base.specs.Sound.{IsReset}
use Rattle.aig_base.specs.Value.{Value, Fits, reset_value}
use Rattle.aig_base.proofs.circuits.Circuits.{latch_defined}
use Rattle.aig_base.proofs.lists.Gets.{All-at}
use Rattle.aig_base.proofs.lists.Positions.{position_of, unmap_option}
use Rattle.aig_base.proofs.values.OneValue.{exists_value}
use Rattle.aig_base.proofs.values.Refined.{kept}
use Rattle.aig_base.proofs.values.UniqueValue.{unique}
use Rattle.aig_values.proofs.PropertyLines.{bad_defined, constraint_defined}
use Rattle.aig_cnf.specs.Formula.{Cnf, IsFormulaOf}
use Rattle.aig_cnf.specs.Query.{step, within}
use Rattle.aig_refute.specs.Satisfiable.{BreaksStep, HasBrokenStep}
use Rattle.aig_refute.proofs.SettledRows.{row_completes, settled, settled_completes}
use Rattle.aig_refute.proofs.StepFormula.{step_broken}
use Rattle.aig_sat.specs.checker.Consequence.{IsUnsatisfiable}
use Rattle.aig_refute.specs.Unreachable.{IsUnreachable, IsUnreachableWithin}
use Rattle.aig_refute.proofs.LaterFrames.{all_known, cut_row, known_value, later, rows_known, state_at}
use Rattle.aig_refute.proofs.UnreachableLemmas.{unreachable_within}

-- ---- the last frames of a run without unknown values

module _ (raw : Raw) (circuit : IsCircuit raw) (k p b : ℕ) (at : slice_get raw.bad p ≡ Some b)
    (start : List Tern) (rows : List (List Tern)) (fits : Fits raw start rows)
    (known_start : (q : ℕ) (w : Tern) → slice_get start q ≡ Some w → w ≢ X)
    (known_rows : (t : ℕ) (row : List Tern) (q : ℕ) (w : Tern) → slice_get rows t ≡ Some row → slice_get row q ≡ Some w → w ≢ X)
    (d : ℕ) (lt : d + k < length rows) (reaches : ReachesBad raw start rows (d + k) b)
    (none : (s : ℕ) → s < k → ReachesBad raw start rows (d + s) b → ⊥) where
  -- ---- the run of the frames from d on

  found : (ws : List Tern) × (length ws ≡ length raw.latches)
      × ((q : ℕ) (x : Latch) (w : Tern) → slice_get raw.latches q ≡ Some x → slice_get ws q ≡ Some w → Value raw start rows d x.lit w)
  found = state_at raw start rows d raw.latches (λ q x here.
      exists_value raw start rows circuit.sound circuit.acyclic fits d (omega (arith, lt)) x.lit (latch_defined raw q x here))

  state : List Tern
  state = found.0

  last : List (List Tern)
  last = take (k + 1) (drop d rows)

  last_is : (s : ℕ) (row : List Tern) → slice_get last s ≡ Some row → slice_get rows (d + s) ≡ Some row
  unfolding last
  last_is s row here = cut_row d (k + 1) s rows row here

  long : length last ≡ k + 1
  unfolding last
  long = length-take-le (k + 1) (drop d rows) (omega (arith, length-drop d rows, lt))

  back : {s l : ℕ} {w : Tern} → Value raw state last s l w → Value raw start rows (d + s) l w
  unfolding state
  back v = later raw start rows d found.0 last found.2 last_is v

  known_state : (q : ℕ) (w : Tern) → slice_get state q ≡ Some w → w ≢ X
  unfolding state
  known_state q w here =
      let below : q < length raw.latches = (let e = slice_get_within found.0 q w here in omega (arith, e, found.1)) in
      let x = get_or raw.latches q (record { lit = 0; next = 0; reset = 0 }) in
      known_value raw start rows known_start known_rows
      (found.2 q x w (slice_get-get_or raw.latches q (record { lit = 0; next = 0; reset = 0 }) below) here)

  known_last : (t : ℕ) (row : List Tern) (q : ℕ) (w : Tern) → slice_get last t ≡ Some row → slice_get row q ≡ Some w → w ≢ X
  known_last t row q w here cell = known_rows (d + t) row q w (last_is t row here) cell

  last_fits : Fits raw state last
  unfolding state
  last_fits = record {
    latches = found.1;
    inputs = λ n e below.
        let r = get_or last n e in
        let here : slice_get last n ≡ Some r = slice_get-get_or last n e below in
        let there : slice_get rows (d + n) ≡ Some r = last_is n r here in
        ap length (sym (get_or_from_slice_get rows (d + n) r e there))
        ∙ fits.inputs (d + n) e (slice_get_within rows (d + n) r there);
  }

  -- ---- what it reaches

  before_or : (u : ℕ) → (u < d) ⊎ ((e : ℕ) × (u ≡ d + e))
  before_or u = cases (below_or u d)
    where
      below_or : (u d : ℕ) → (u < d) ⊎ (d ≤ u)
      below_or u d = grind arith

      cases : (u < d) ⊎ (d ≤ u) → (u < d) ⊎ ((e : ℕ) × (u ≡ d + e))
      cases (inl h) = inl h
      cases (inr h) = inr (u - d, omega (arith, h))

  reaches_back : (s : ℕ) → s ≤ k → ReachesBad raw state last s b → ReachesBad raw start rows (d + s) b
  reaches_back s le (bad, all) = (back bad, λ u c below has. constraint u c below has (before_or u))
    where
      constraint : (u c : ℕ) → u ≤ d + s → Contains raw.constraints c → (u < d) ⊎ ((e : ℕ) × (u ≡ d + e))
          → Value raw start rows u c One
      constraint u c below has (inl h) = reaches.1 u c (omega (arith, h)) has
      constraint u c below has (inr (e, is)) =
          subst (λ (n : ℕ). Value raw start rows n c One) (sym is) (back (all e c (omega (arith, is, below)) has))

  is_one_here : (s l : ℕ) → s ≤ k → ((u : Tern) → Value raw start rows (d + s) l u → u ≡ One)
      → ((w : Tern) × Value raw state last s l w) → Value raw state last s l One
  is_one_here s l le one (w, v) = subst (λ (u : Tern). Value raw state last s l u) (one w (back v)) v

  reaches_here : ReachesBad raw state last k b
  reaches_here = (
    is_one_here k b (omega arith) (λ u v. unique raw start rows circuit.sound v reaches.0)
        (exists_value raw state last circuit.sound circuit.acyclic last_fits k (omega (arith, long)) b (bad_defined raw circuit.sound p b at)),
    λ s c le has.
        let (q, here) = position_of raw.constraints c has in
        is_one_here s c le (λ u v. unique raw start rows circuit.sound v (reaches.1 (d + s) c (omega (arith, le)) has))
        (exists_value raw state last circuit.sound circuit.acyclic last_fits s (omega (arith, long, le)) c
        (constraint_defined raw circuit.sound q c here)),
  )

  breaks : BreaksStep raw k p state last
  breaks = record {
    fits = last_fits;
    known = record { start_known = all_known state known_state; rows_known = rows_known last known_last };
    frames = long;
    bad = b;
    bad_is = at;
    reached = reaches_here;
    none_before = λ t below r. none t below (reaches_back t (omega (arith, below)) r);
  }

  pub has_broken_step : HasBrokenStep raw k p
  has_broken_step = (state, last, breaks)

-- ---- any run

settled_known : (w : Tern) → settled w ≢ X
settled_known w = (settled_completes w).0

settled_cell : (ws : List Tern) (q : ℕ) (w : Tern) → slice_get (map settled ws) q ≡ Some w
    → (u : Tern) × (slice_get ws q ≡ Some u) × (settled u ≡ w)
settled_cell ws q w at = unmap_option settled (slice_get ws q) w (sym (slice_get-map settled ws q) ∙ at)

known_settled : (ws : List Tern) (q : ℕ) (w : Tern) → slice_get (map settled ws) q ≡ Some w → w ≢ X
known_settled ws q w at =
    let (u, here, is) = settled_cell ws q w at in subst (λ (v : Tern). v ≢ X) is (settled_known u)

settled_row : (rows : List (List Tern)) (t : ℕ) (row : List Tern) → slice_get (map (map settled) rows) t ≡ Some row
    → (r : List Tern) × (slice_get rows t ≡ Some r) × (map settled r ≡ row)
settled_row rows t row at = unmap_option (map settled) (slice_get rows t) row (sym (slice_get-map (map settled) rows t) ∙ at)

known_settled_rows : (rows : List (List Tern)) (t : ℕ) (row : List Tern) (q : ℕ) (w : Tern)
    → slice_get (map (map settled) rows) t ≡ Some row → slice_get row q ≡ Some w → w ≢ X
known_settled_rows rows t row q w at cell =
    let (r, here, is) = settled_row rows t row at in
    known_settled r q w (subst (λ (s : List Tern). slice_get s q ≡ Some w) (sym is) cell)

rows_complete : (rows : List (List Tern)) → AllZip (AllZip Completes) rows (map (map settled) rows)
rows_complete [] = tt
rows_complete (row ∷ rows) = (row_completes row, rows_complete rows)

module _ (raw : Raw) (circuit : IsCircuit raw) (start : List Tern) (rows : List (List Tern)) (fits : Fits raw start rows) where
  completes : IsCompletion start rows (map settled start) (map (map settled) rows)
  completes = (row_completes start, rows_complete rows)

  settled_fits : Fits raw (map settled start) (map (map settled) rows)
  settled_fits = record {
    latches = length-map start settled ∙ fits.latches;
    inputs = λ n d below.
        let row = get_or (map (map settled) rows) n d in
        let here : slice_get (map (map settled) rows) n ≡ Some row = slice_get-get_or (map (map settled) rows) n d below in
        let (r, there, is) = settled_row rows n row here in
        ap length (sym is) ∙ length-map r settled ∙ ap length (sym (get_or_from_slice_get rows n r d there))
        ∙ fits.inputs n d (slice_get_within rows n r there);
  }

  settled_reset : (n : ℕ) → (n ≡ 0) ⊎ ((n ≡ 1) ⊎ ⊥) → settled (reset_value n) ≡ reset_value n
  settled_reset n (inl e) = rw e refl
  settled_reset n (inr (inl e)) = rw e refl
  settled_reset n (inr (inr none)) = absurd none

  settled_allowed : IsAllowed raw start → IsAllowed raw (map settled start)
  settled_allowed allowed q x w here cell =
      let (u, there, is) = settled_cell start q w cell in
      go u is (allowed q x u here there) (All-at IsReset raw.latches q x circuit.sound.resets here)
    where
      go : (u : Tern) → settled u ≡ w → (x.reset ≡ x.lit) ⊎ (u ≡ reset_value x.reset)
          → (x.reset ≡ 0) ⊎ ((x.reset ≡ 1) ⊎ (x.reset ≡ x.lit)) → (x.reset ≡ x.lit) ⊎ (w ≡ reset_value x.reset)
      go u is (inl own) reset = inl own
      go u is (inr same) (inl e) = inr (sym is ∙ ap settled same ∙ settled_reset x.reset (inl e))
      go u is (inr same) (inr (inl e)) = inr (sym is ∙ ap settled same ∙ settled_reset x.reset (inr (inl e)))
      go u is (inr same) (inr (inr own)) = inl own

  settled_reaches : (t b : ℕ) → ReachesBad raw start rows t b → ReachesBad raw (map settled start) (map (map settled) rows) t b
  settled_reaches t b (bad, all) = (
    kept raw start (map settled start) rows (map (map settled) rows) completes (λ e. (let no : ⊥ = cc in no)) bad,
    λ s c le has. kept raw start (map settled start) rows (map (map settled) rows) completes (λ e. (let no : ⊥ = cc in no)) (all s c le has),
  )

-- ---- induction on the frame

module _ (raw : Raw) (circuit : IsCircuit raw) (k p : ℕ) (base : IsUnreachableWithin raw k p) (unbroken : HasBrokenStep raw k p → ⊥) where
  early_or : (t : ℕ) → (t < k) ⊎ ((d : ℕ) × (t ≡ d + k))
  early_or t = cases (below_or t k)
    where
      below_or : (t k : ℕ) → (t < k) ⊎ (k ≤ t)
      below_or t k = grind arith

      cases : (t < k) ⊎ (k ≤ t) → (t < k) ⊎ ((d : ℕ) × (t ≡ d + k))
      cases (inl h) = inl h
      cases (inr h) = inr (t - k, omega (arith, h))

  abbrev Below : ℕ → Type 0
  Below n = (start : List Tern) (rows : List (List Tern)) (t b : ℕ) → t < n → Fits raw start rows → IsAllowed raw start
      → t < length rows → slice_get raw.bad p ≡ Some b → ReachesBad raw start rows t b → ⊥

  one_more : (n : ℕ) → Below n → Below (suc n)
  one_more n before start rows t b lt fits allowed long_enough at reaches = go (early_or t)
    where
      go : (t < k) ⊎ ((d : ℕ) × (t ≡ d + k)) → ⊥
      go (inl early) = base start rows t early (fits, allowed, long_enough, (b, at, reaches))
      go (inr (d, is)) =
          let start' = map settled start in
          let rows' = map (map settled) rows in
          let long : length rows' ≡ length rows = length-map rows (map settled) in
          unbroken (has_broken_step raw circuit k p b at start' rows'
          (settled_fits raw circuit start rows fits) (known_settled start) (known_settled_rows rows) d
          (omega (arith, long, long_enough, is))
          (subst (λ (m : ℕ). ReachesBad raw start' rows' m b) is (settled_reaches raw circuit start rows fits t b reaches))
          (λ s below r. before start' rows' (d + s) b (omega (arith, below, lt, is)) (settled_fits raw circuit start rows fits)
          (settled_allowed raw circuit start rows fits allowed) (omega (arith, below, long, long_enough, is)) at r))

  each_frame : (n : ℕ) → Below n
  each_frame zero = λ start rows t b lt fits allowed long_enough at reaches. absurd (omega (arith, lt))
  each_frame (suc n) = one_more n (each_frame n)

  pub unreachable : IsUnreachable raw p
  unreachable start rows t (fits, allowed, long_enough, (b, at, reaches)) =
      each_frame (suc t) start rows t b (omega arith) fits allowed long_enough at reaches

pub by_induction : (raw : Raw) (base later : Cnf) → IsCircuit raw → (k p : ℕ) → IsFormulaOf raw (within k p) base
    → IsFormulaOf raw (step k p) later → IsUnsatisfiable base.clauses → IsUnsatisfiable later.clauses → IsUnreachable raw p
by_induction raw base later circuit k p base_is later_is base_refuted later_refuted =
    unreachable raw circuit k p (unreachable_within raw base circuit k p base_is base_refuted)
    (λ broken.
    let (values, satisfies) = (step_broken raw later k p circuit later_is (property broken)).1 broken in
    later_refuted values satisfies)
  where
    property : HasBrokenStep raw k p → p < length raw.bad
    property (begin, rows, h) = slice_get_within raw.bad p h.bad h.bad_is
