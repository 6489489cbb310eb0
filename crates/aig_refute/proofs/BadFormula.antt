-- The formula of a bad state: its models, and the rows that are in them.
use Rattle.std.proofs.Common.{◌≡◌, ◌≢◌, ◌⊎◌, inl, inr, ℕ, zero, suc, ◌+◌, ◌-◌, ◌*◌, ◌%◌, ◌<◌, ◌≤◌, Bool, true, false}
use Rattle.std.proofs.Common.{not, ◌&&◌, ◌||◌}
use Rattle.std.proofs.Common.{List, [], ◌∷◌, ◌++◌, length, flat_map, Some, slice_get, slice_index, get_or, All}
use Rattle.std.proofs.Common.{refl, sym, ◌∙◌, ap, ap₂, subst, arith}
use Rattle.std.specs.List.{list_all, range_with_len}
use Rattle.std.proofs.lemmas.List.{ext_get_or}
use Rattle.std.proofs.lemmas.List.FromFn.{length-map-range_with_len, get_or-map-range_with_len}
use Rattle.std.proofs.lemmas.List.Elements.{All-nil, All-cons, All-map, All-weaker}
use Rattle.std.proofs.lemmas.Option.{slice_get-get_or, slice_get_within, get_or_from_slice_get}
use Rattle.std.proofs.lemmas.Bool.{and_parts}
use Rattle.aig_sat.proofs.checking.TruthLemmas.{true_even, true_below}
use Rattle.aig_parts.specs.Literal.{variable}
use Rattle.aig_parts.specs.declared.gate.Gate.{Gate}
use Rattle.aig_parts.specs.declared.raw.Raw.{Raw}
use Rattle.aig_parts.specs.declared.ternary.Tern.{Tern}
use Rattle.aig_parts.specs.declared.ternary.Tern.TheVariants.{Zero, One, X}
use Rattle.aig_parts.specs.Ternary.{kleene_and, kleene_not}
use Rattle.aig_base.specs.Circuit.{IsCircuit}
use Rattle.aig_base.specs.Grounded.{IsAcyclic}
use Rattle.aig_base.specs.Order.{IsCanonicalOrder}
use Rattle.aig_base.specs.Renumbered.{evens}
use Rattle.aig_base.specs.Sections.{definitions, uses}
use Rattle.aig_base.specs.Sound.{IsInRange}
use Rattle.aig_base.specs.Value as value
use Rattle.aig_base.specs.Value.{Value, Fits}
use Rattle.aig_base.proofs.circuits.InOrder.{defined_to}
use Rattle.aig_base.proofs.circuits.EachUse.{each_use}
use Rattle.aig_base.proofs.lists.Evens.{length-evens_from}
use Rattle.aig_base.proofs.lists.Gets.{All-at}
use Rattle.aig_base.proofs.lists.Joined.{All-right}
use Rattle.aig_base.proofs.renumbered.RenumberedCircuit.{ready_acyclic}
use Rattle.aig_base.proofs.values.OneValue.{exists_value}
use Rattle.aig_base.proofs.values.UniqueValue.{unique}
use Rattle.aig_unroll.specs.FrameLiteral.{input_count}
use Rattle.aig_unroll.specs.Unrolled.{unrolled, frames, frame_bad}
use Rattle.aig_unroll.proofs.UnrolledCircuit.{unrolled_sound, length-frame_bad}
use Rattle.aig_unroll.proofs.UnrolledReady.{IsReadyGate, gates_ready, unrolled_ready}
use Rattle.aig_unroll.proofs.UnrolledRow.{evens_at, frames_at, place_at}
use Rattle.aig_refute.proofs.UnrolledWitnesses.{confirms_row}
use Rattle.aig_refute.specs.UnrolledWitness.{MakesBad}
use Rattle.aig_cnf.specs.Formula.{cone, formula_of, gate_clauses, goals}
use Rattle.aig_cnf.specs.Query.{within}
use Rattle.aig_sat.specs.checker.Clause.{is_true, meets, Satisfies}
use Rattle.aig_refute.specs.Models.{tern_of, values_of, AreKnown, NamesWitness, IsInModel}
use Rattle.aig_cnf.proofs.SignLemmas.{signs}
use Rattle.aig_refute.proofs.ConeValues.{assigned_in, cone_met, goal_read, read_earlier}
use Rattle.aig_refute.proofs.Tseitin.{both_and, known, gates_met, meets_gates, one_met, meets_one, tern_and, tern_not}

-- ---- the unrolled circuit

module _ (raw : Raw) (circuit : IsCircuit raw) (order : List ℕ) (canonical : IsCanonicalOrder raw order) (k : ℕ) where
  abbrev pub C : Raw
  C = unrolled raw order k

  acyclic : IsAcyclic C
  acyclic = ready_acyclic C (unrolled_ready raw circuit order canonical k)
      (All-right (IsInRange C) (definitions C) (uses C) (unrolled_sound raw circuit order canonical k).in_range)

  fits_row : (row : List Tern) → length row ≡ input_count raw k → Fits C [] (row ∷ [])
  fits_row row wide = record {
    latches = refl;
    inputs = All-cons (λ (r : List Tern). length r ≡ length (evens (input_count raw k))) row []
        (wide ∙ sym (length-evens_from 1 (input_count raw k)))
        (All-nil (λ (r : List Tern). length r ≡ length (evens (input_count raw k))));
  }

  -- each literal up to the greatest has a value
  pub valued : (row : List Tern) → length row ≡ input_count raw k → (l : ℕ) → variable l ≤ C.max_var
      → (w : Tern) × Value C [] (row ∷ []) 0 l w
  valued row wide l le =
      exists_value C [] (row ∷ []) (unrolled_sound raw circuit order canonical k) acyclic (fits_row row wide) 0
      (omega arith) l (defined_to C (unrolled_ready raw circuit order canonical k).in_order (variable l) le)

  -- the bad literal of a frame
  pub bad_at : (t p : ℕ) → t < k → p < length raw.bad
      → slice_get C.bad (t * length raw.bad + p) ≡ Some (slice_index C.bad (t * length raw.bad + p))
  bad_at t p lt property =
      let here = place_at (frame_bad raw order k) (length raw.bad) k t p (slice_index (frame_bad raw order k t) p)
      (length-frame_bad raw order k) lt
      (slice_get-get_or (frame_bad raw order k t) p 0 (omega (arith, length-frame_bad raw order k t))) in
      here ∙ ap Some (sym (get_or_from_slice_get C.bad (t * length raw.bad + p)
      (slice_index (frame_bad raw order k t) p) 0 here))

  pub bad_in_range : (t p : ℕ) → t < k → p < length raw.bad
      → variable (slice_index C.bad (t * length raw.bad + p)) ≤ C.max_var
  bad_in_range t p lt property =
      let r = All-at (λ l. variable l ≤ C.max_var) C.bad (t * length raw.bad + p)
      (slice_index C.bad (t * length raw.bad + p)) (all_bad_used) (bad_at t p lt property) in r
    where
      all_bad_used : All (λ l. variable l ≤ C.max_var) C.bad
      all_bad_used = All-weaker (IsInRange C) (λ l. variable l ≤ C.max_var) (λ l h. omega arith) C.bad
          (each_use (IsInRange C) C (All-right (IsInRange C) (definitions C) (uses C)
          (unrolled_sound raw circuit order canonical k).in_range)).bad

-- ---- the goals

cases_at : {A : Type 0} (xs ys : List A) (i : ℕ) (x : A) → slice_get (xs ++ ys) i ≡ Some x
    → (slice_get xs i ≡ Some x) ⊎ ((j : ℕ) × (slice_get ys j ≡ Some x))
cases_at [] ys i x at = inr (i, at)
cases_at (y ∷ xs) ys zero x at = inl at
cases_at (y ∷ xs) ys (suc i) x at = cases_at xs ys i x at

-- one literal a frame
pub goal_frame : (f : ℕ → ℕ) (k i l : ℕ) → slice_get (frames (λ t. f t ∷ []) k) i ≡ Some l → (t : ℕ) × (t < k) × (l ≡ f t)
goal_frame f zero i l at = cc
goal_frame f (suc k) i l at =
    go (cases_at (frames (λ t. f t ∷ []) k) (f k ∷ []) i l at) (λ e. goal_frame f k i l e)
  where
    go : (slice_get (frames (λ t. f t ∷ []) k) i ≡ Some l) ⊎ ((j : ℕ) × (slice_get (f k ∷ []) j ≡ Some l))
        → (slice_get (frames (λ t. f t ∷ []) k) i ≡ Some l → (t : ℕ) × (t < k) × (l ≡ f t))
        → (t : ℕ) × (t < suc k) × (l ≡ f t)
    go (inl before) later = let (t, lt, is) = later before in (t, omega arith, is)
    go (inr (zero, here)) later = (k, omega arith, cc)
    go (inr (suc j, here)) later = cc

tern_same : (x y : Bool) → tern_of x ≡ tern_of y → x ≡ y
tern_same true true e = refl
tern_same true false e = cc
tern_same false true e = cc
tern_same false false e = refl

pub low_of : (a : ℕ → Bool) → meets a (1 ∷ []) ≡ true → a 0 ≡ false
low_of a e = go (a 0) e
  where
    go : (b : Bool) → (not b || false) ≡ true → b ≡ false
    go true e = cc
    go false e = refl

-- literal 1 is true, a goal is, and the clauses of the gates in the cone are met
pub formula_met : (raw : Raw) (order : List ℕ) (k p : ℕ) (a : ℕ → Bool) → Satisfies a (formula_of raw order (within k p)).clauses
    → (meets a (1 ∷ []) ≡ true) × (meets a (goals (unrolled raw order k) (length raw.bad) k p) ≡ true)
    × Satisfies a (flat_map gate_clauses (cone (goals (unrolled raw order k) (length raw.bad) k p) (unrolled raw order k).gates))
formula_met raw order k p a h =
    let literals = goals (unrolled raw order k) (length raw.bad) k p in
    let goal = meets a literals in
    let gates = list_all (meets a) (flat_map gate_clauses (cone literals (unrolled raw order k).gates)) in
    let (first, rest) = and_parts (meets a (1 ∷ [])) (goal && gates) h in
    let (some, each) = and_parts goal gates rest in (first, some, each)

module _ (raw : Raw) (circuit : IsCircuit raw) (order : List ℕ) (canonical : IsCanonicalOrder raw order) (k : ℕ) where
  -- ---- from a model to a witness

  pub wide_values : (a : ℕ → Bool) → length (values_of raw k a) ≡ input_count raw k
  wide_values a = length-map-range_with_len (λ v. tern_of (a v)) 1 (input_count raw k)

  pub values_known : (a : ℕ → Bool) → AreKnown (values_of raw k a)
  values_known a =
      All-map (λ (w : Tern). w ≢ X) (λ v. tern_of (a v)) (range_with_len 1 (input_count raw k))
      (λ i d lt. tern_known (a (get_or (range_with_len 1 (input_count raw k)) i d)))
    where
      tern_known : (b : Bool) → tern_of b ≢ X
      tern_known true e = cc
      tern_known false e = cc

  -- the inputs have the values that the assignment says
  pub inputs_are : (a : ℕ → Bool) (i l : ℕ) (w : Tern) → slice_get (evens (input_count raw k)) i ≡ Some l
      → slice_get (values_of raw k a) i ≡ Some w → w ≡ tern_of (is_true a l)
  inputs_are a i l w at cell =
      let lt : i < input_count raw k =
      (let h = slice_get_within (evens (input_count raw k)) i l at in omega (arith, length-evens_from 1 (input_count raw k))) in
      let is : l ≡ 2 * (1 + i) = (let e : Some l ≡ Some (2 * (1 + i)) = sym at ∙ evens_at (input_count raw k) i lt in cc) in
      let even : l % 2 ≡ 0 = grind (arith, is) in
      let half : variable l ≡ 1 + i = grind (arith, is) in
      let value_is : w ≡ tern_of (a (1 + i)) =
      sym (get_or_from_slice_get (values_of raw k a) i w X cell)
      ∙ get_or-map-range_with_len (λ v. tern_of (a v)) 1 (input_count raw k) i (1 + i) X lt refl in
      value_is ∙ ap (λ v. tern_of (a v)) (sym half) ∙ ap tern_of (sym (true_even a l even))

  -- the bad literals have the values that the assignment says, whatever it says of gates outside the cone
  pub goal_value : (p : ℕ) (a : ℕ → Bool) → meets a (1 ∷ []) ≡ true
      → Satisfies a (flat_map gate_clauses (cone (goals (unrolled raw order k) (length raw.bad) k p) (unrolled raw order k).gates))
      → (t : ℕ) (w : Tern) → t < k
      → Value (unrolled raw order k) [] (values_of raw k a ∷ []) 0 (slice_index (unrolled raw order k).bad (t * length raw.bad + p)) w
      → w ≡ tern_of (is_true a (slice_index (unrolled raw order k).bad (t * length raw.bad + p)))
  goal_value p a first met t w lt v =
      let C = unrolled raw order k in
      let f : ℕ → ℕ = λ s. slice_index C.bad (s * length raw.bad + p) in
      let literals = goals C (length raw.bad) k p in
      let low = low_of a first in
      let (j, stands) = frames_at (λ s. f s ∷ []) k t 0 (f t) lt refl in
      assigned_in C (values_of raw k a) refl (read_earlier raw circuit order canonical k) literals (λ l. tern_of (is_true a l))
      (ap tern_of low) (ap (λ b. tern_of (not b)) low) (λ i l u. inputs_are a i l u)
      (λ l odd. ap tern_of (true_below a l odd) ∙ tern_not (is_true a (l - 1)))
      (λ q g at. ap tern_of (gates_met a (cone literals C.gates) met q g at) ∙ tern_and (is_true a g.rhs0) (is_true a g.rhs1)) v
      (goal_read literals (cone literals C.gates) j (f t) stands)

  pub reaches : (p : ℕ) (a : ℕ → Bool) → p < length raw.bad → Satisfies a (formula_of raw order (within k p)).clauses
      → (t : ℕ) × (t < k) × MakesBad raw order k (values_of raw k a) t p
  reaches p a property h =
      let (first, goal, gates) = formula_met raw order k p a h in
      let (i, l, at, true_l) = one_met a (goals (unrolled raw order k) (length raw.bad) k p) goal in
      let (t, lt, is) = goal_frame (λ t. slice_index (unrolled raw order k).bad (t * length raw.bad + p)) k i l at in
      let g = slice_index (unrolled raw order k).bad (t * length raw.bad + p) in
      let (w, v) = valued raw circuit order canonical k (values_of raw k a) (wide_values a) g
      (bad_in_range raw circuit order canonical k t p lt property) in
      let one : w ≡ One = goal_value p a first gates t w lt v ∙ ap tern_of (ap (is_true a) (sym is) ∙ true_l) in (
        t,
        lt,
        (
          g,
          bad_at raw circuit order canonical k t p lt property,
          subst (λ (u : Tern). Value (unrolled raw order k) [] (values_of raw k a ∷ []) 0 g u) one v,
        ),
      )

  pub names_witness : (p : ℕ) (a : ℕ → Bool) → p < length raw.bad → Satisfies a (formula_of raw order (within k p)).clauses
      → NamesWitness raw k p a
  names_witness p a property h =
      let (t, lt, bad) = reaches p a property h in
      (t, lt, (confirms_row raw circuit order canonical k (values_of raw k a) (wide_values a) t p lt property).0 bad)

  -- ---- from a row to a model

  abbrev is_one : Tern → Bool
  is_one Zero = false
  is_one One = true
  is_one X = false

  known_is : (w : Tern) → w ≢ X → w ≡ tern_of (is_one w)
  known_is Zero h = refl
  known_is One h = refl
  known_is X h = absurd (h refl)

  below_or : (v : ℕ) → (v ≤ (unrolled raw order k).max_var) ⊎ ((unrolled raw order k).max_var < v)
  below_or v = grind arith

  module _ (row : List Tern) (wide : length row ≡ input_count raw k) (all : AreKnown row) where
    abbrev Has : ℕ → Tern → Type 0
    Has l w = Value (unrolled raw order k) [] (row ∷ []) 0 l w

    same : (l : ℕ) {v w : Tern} → Has l v → Has l w → v ≡ w
    same l v w = unique (unrolled raw order k) [] (row ∷ []) (unrolled_sound raw circuit order canonical k) v w

    known_value : (l : ℕ) {w : Tern} → Has l w → w ≢ X
    known_value l v = known (unrolled raw order k) row refl
        (λ p w at e. all p X (slice_get_within row p w at) (get_or_from_slice_get row p w X at ∙ e)) v

    value_in : (l : ℕ) → variable l ≤ (unrolled raw order k).max_var → (w : Tern) × Has l w
    value_in l le = valued raw circuit order canonical k row wide l le

    -- each variable has the value that the row gives it
    chosen : (v : ℕ) → (v ≤ (unrolled raw order k).max_var) ⊎ ((unrolled raw order k).max_var < v) → Bool
    chosen v (inl le) = is_one (value_in (2 * v) (omega arith)).0
    chosen v (inr over) = false

    values : ℕ → Bool
    values v = chosen v (below_or v)

    chosen_is : (v : ℕ) (w : Tern) → Has (2 * v) w → v ≤ (unrolled raw order k).max_var
        → (d : (v ≤ (unrolled raw order k).max_var) ⊎ ((unrolled raw order k).max_var < v)) → w ≡ tern_of (chosen v d)
    unfolding chosen
    chosen_is v w h le (inl b) =
        let (u, here) = value_in (2 * v) (omega arith) in
        let e : w ≡ u = same (2 * v) h here in
        e ∙ known_is u (known_value (2 * v) here)
    chosen_is v w h le (inr over) = absurd (omega arith)

    -- each literal has the value that the assignment says
    even_is : (l : ℕ) (w : Tern) → l % 2 ≡ 0 → variable l ≤ (unrolled raw order k).max_var → Has l w
        → w ≡ tern_of (is_true values l)
    unfolding values
    even_is l w even le h =
        let e : l ≡ 2 * variable l = grind (arith, even) in
        chosen_is (variable l) w (subst (λ m. Has m w) e h) le (below_or (variable l))
        ∙ ap tern_of (sym (true_even values l even))

    under : (l : ℕ) → l % 2 ≡ 1 → (u : Tern) → Has (l - 1) u → Has l (kleene_not u)
    under l odd u h = elim (one_or l odd) [
      | inl e ↦
          let zero_is : u ≡ Zero = same 0 (subst (λ m. Has (m - 1) u) e h) (value.constant_false 0) in
          rw (e, zero_is) (value.constant_true 0)
      | inr over ↦ value.negated 0 l u over odd h
    ]
      where
        one_or : (l : ℕ) → l % 2 ≡ 1 → (l ≡ 1) ⊎ (1 < l)
        one_or l odd = grind (arith, odd)

    each_is : (l : ℕ) (w : Tern) → variable l ≤ (unrolled raw order k).max_var → Has l w → w ≡ tern_of (is_true values l)
    each_is l w le h = elim (signs l) [
      | inl even ↦ even_is l w even le h
      | inr odd ↦
          let half : variable (l - 1) ≤ (unrolled raw order k).max_var = grind (arith, le, odd) in
          let even : (l - 1) % 2 ≡ 0 = grind (arith, odd) in
          let (u, here) = value_in (l - 1) half in
          let e : w ≡ kleene_not u = same l h (under l odd u here) in
          let f : u ≡ tern_of (is_true values (l - 1)) = even_is (l - 1) u even half here in
          e ∙ ap kleene_not f ∙ sym (tern_not (is_true values (l - 1))) ∙ ap tern_of (sym (true_below values l odd))
    ]

    gate_is : (q : ℕ) (g : Gate) → slice_get (unrolled raw order k).gates q ≡ Some g
        → is_true values g.lhs ≡ (is_true values g.rhs0 && is_true values g.rhs1)
    gate_is q g at =
        let h = subst (IsReadyGate (unrolled raw order k).max_var)
        (get_or_from_slice_get (unrolled raw order k).gates q g g at)
        (gates_ready raw circuit order canonical k q g (slice_get_within (unrolled raw order k).gates q g at)) in
        let low0 : variable g.rhs0 ≤ (unrolled raw order k).max_var = grind (arith, h.first, h.within) in
        let low1 : variable g.rhs1 ≤ (unrolled raw order k).max_var = grind (arith, h.first, h.second, h.within) in
        let low : variable g.lhs ≤ (unrolled raw order k).max_var = grind (arith, h.within) in
        let (b, vb) = value_in g.rhs0 low0 in
        let (c, vc) = value_in g.rhs1 low1 in
        let e : kleene_and b c ≡ tern_of (is_true values g.lhs) =
        each_is g.lhs (kleene_and b c) low (value.gate 0 q g b c at vb vc) in
        let f : b ≡ tern_of (is_true values g.rhs0) = each_is g.rhs0 b low0 vb in
        let d : c ≡ tern_of (is_true values g.rhs1) = each_is g.rhs1 c low1 vc in
        tern_same (is_true values g.lhs) (is_true values g.rhs0 && is_true values g.rhs1)
        (sym e ∙ ap₂ kleene_and f d ∙ sym (tern_and (is_true values g.rhs0) (is_true values g.rhs1)))

    row_is : values_of raw k values ≡ row
    unfolding values
    row_is = ext_get_or X (values_of raw k values) row (wide_values values ∙ sym wide) (λ i lt.
        let below : i < input_count raw k = omega (arith, wide_values values) in
        let here : slice_get row i ≡ Some (get_or row i X) = slice_get-get_or row i X (omega (arith, wide)) in
        let v : Has (2 * (1 + i)) (get_or row i X) =
        value.input 0 i (2 * (1 + i)) (get_or row i X) row (evens_at (input_count raw k) i below) refl here in
        get_or-map-range_with_len (λ u. tern_of (values u)) 1 (input_count raw k) i (1 + i) X below refl
        ∙ sym (chosen_at (1 + i) (get_or row i X) (omega arith) v))
      where
        chosen_at : (u : ℕ) (w : Tern) → u ≤ (unrolled raw order k).max_var → Has (2 * u) w → w ≡ tern_of (values u)
        chosen_at u w le h = chosen_is u w h le (below_or u)

    pub in_model : (t p : ℕ) → t < k → p < length raw.bad → MakesBad raw order k row t p → IsInModel raw order k p row
    in_model t p lt property (g, at, v) =
        let f : ℕ → ℕ = λ s. slice_index (unrolled raw order k).bad (s * length raw.bad + p) in
        let same_goal : g ≡ f t =
        (let e : Some g ≡ Some (f t) = sym at ∙ bad_at raw circuit order canonical k t p lt property in cc) in
        let reached : One ≡ tern_of (is_true values (f t)) =
        each_is (f t) One (bad_in_range raw circuit order canonical k t p lt property) (subst (λ m. Has m One) same_goal v) in
        let true_goal : is_true values (f t) ≡ true = sym (tern_same true (is_true values (f t)) reached) in
        let (j, stands) = frames_at (λ s. f s ∷ []) k t 0 (f t) lt refl in
        let low : is_true values 1 ≡ true =
        (let e : One ≡ tern_of (is_true values 1) = each_is 1 One (omega arith) (value.constant_true 0) in
        sym (tern_same true (is_true values 1) e)) in (
          values,
          both_and (meets_one values (1 ∷ []) 0 1 refl low)
              (both_and (meets_one values (goals (unrolled raw order k) (length raw.bad) k p) j (f t) stands true_goal)
              (cone_met values (goals (unrolled raw order k) (length raw.bad) k p) (unrolled raw order k).gates
              (meets_gates values (unrolled raw order k).gates gate_is))),
          row_is,
        )
