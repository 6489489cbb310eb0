-- Frames passed over, joined: lists of cells, one after the other.
use Rattle.std.proofs.Common.{◌≡◌, ◌≢◌, ◌⊎◌, ◌↔◌, inl, inr, ℕ, zero, suc, ◌+◌, ◌<◌, ◌≤◌, Bool, List, [], ◌∷◌, ◌++◌}
use Rattle.std.proofs.Common.{length, Contains, refl, sym, ap, ◌∙◌, subst, arith, length-append}
use Rattle.aig_parts.specs.declared.ternary.Tern.{Tern}
use Rattle.aig_base.proofs.lists.Positions.{Contains-cons}
use Rattle.aig_values.specs.InputRows.{row_at}
use Rattle.aig_bench.specs.state.Current.{IsCurrentRow}
use Rattle.aig_bench.specs.BenchState.{CircuitAndRows}
use Rattle.aig_bench.specs.state.Passing.{Differs, IsTouched}
use Rattle.aig_bench.specs.state.Renewed.{IsBetween, IsTouchedCell, Renewed}
use Rattle.aig_bench.specs.state.Sweep.{PassEnds}
use Rattle.aig_bench.specs.Touched.{IsOnce, AreCells}
use Rattle.aig_base.proofs.circuits.Gates.{gate_of}

nothing : {X : Type 0} (x : X) → Contains [] x → ⊥
nothing x (k, lt, is) = absurd (omega arith)

here : {X : Type 0} (x : X) (xs : List X) → Contains (x ∷ xs) x
here x xs = (0, omega arith, refl)

in_tail : {X : Type 0} (x : X) (xs : List X) (y : X) → Contains xs y → Contains (x ∷ xs) y
in_tail x xs y (k, lt, is) = (suc k, omega arith, is)

module _ {X : Type 0} where
  either : (xs ys : List X) (y : X) → Contains (xs ++ ys) y → Contains xs y ⊎ Contains ys y
  either [] ys y h = inr h
  either (x ∷ xs) ys y h = elim (Contains-cons x (xs ++ ys) y h) [
    | inl e ↦ inl (subst (Contains (x ∷ xs)) (sym e) (here x xs))
    | inr k ↦ elim (either xs ys y k) [ inl i ↦ inl (in_tail x xs y i) | inr i ↦ inr i ]
  ]

  in_left : (xs ys : List X) (y : X) → Contains xs y → Contains (xs ++ ys) y
  in_left [] ys y h = absurd (nothing y h)
  in_left (x ∷ xs) ys y h = elim (Contains-cons x xs y h) [
    | inl e ↦ subst (Contains (x ∷ (xs ++ ys))) (sym e) (here x (xs ++ ys))
    | inr k ↦ in_tail x (xs ++ ys) y (in_left xs ys y k)
  ]

  in_right : (xs ys : List X) (y : X) → Contains ys y → Contains (xs ++ ys) y
  in_right [] ys y h = h
  in_right (x ∷ xs) ys y h = in_tail x (xs ++ ys) y (in_right xs ys y h)

  once_joined : (xs ys : List X) → IsOnce xs → IsOnce ys → ((y : X) → Contains xs y → Contains ys y → ⊥) → IsOnce (xs ++ ys)
  once_joined [] ys a b apart = b
  once_joined (x ∷ xs) ys a b apart = (
    λ h. elim (either xs ys x h) [ inl k ↦ a.0 k | inr k ↦ apart x (here x xs) k ],
    once_joined xs ys a.1 b (λ y k l. apart y (in_tail x xs y k) l),
  )

-- cells of one frame
at_frame : ℕ → List ℕ → List (ℕ × ℕ)
at_frame t [] = []
at_frame t (v ∷ vs) = (t, v) ∷ at_frame t vs

pair_same : (t v s u : ℕ) → let a : ℕ × ℕ = (t, v) in let b : ℕ × ℕ = (s, u) in a ≡ b → (t ≡ s) × (v ≡ u)
pair_same t v s u e = (ap (λ (x : ℕ × ℕ). x.0) e, ap (λ (x : ℕ × ℕ). x.1) e)

module _ (t : ℕ) where
  framed : (vs : List ℕ) (s u : ℕ) → Contains (at_frame t vs) (s, u) → (s ≡ t) × Contains vs u
  unfolding at_frame
  framed [] s u h = absurd (nothing (s, u) h)
  framed (v ∷ vs) s u h = elim (Contains-cons (t, v) (at_frame t vs) (s, u) h) [
    | inl e ↦ let k = pair_same s u t v e in (k.0, subst (Contains (v ∷ vs)) (sym k.1) (here v vs))
    | inr k ↦ let r = framed vs s u k in (r.0, in_tail v vs u r.1)
  ]

  frames : (vs : List ℕ) (u : ℕ) → Contains vs u → Contains (at_frame t vs) (t, u)
  unfolding at_frame
  frames [] u h = absurd (nothing u h)
  frames (v ∷ vs) u h = elim (Contains-cons v vs u h) [
    | inl e ↦ subst (λ (n : ℕ). Contains (at_frame t (v ∷ vs)) (t, n)) (sym e) (here (t, v) (at_frame t vs))
    | inr k ↦ in_tail (t, v) (at_frame t vs) (t, u) (frames vs u k)
  ]

  once_framed : (vs : List ℕ) → IsOnce vs → IsOnce (at_frame t vs)
  unfolding at_frame
  once_framed [] h = tt
  once_framed (v ∷ vs) h = (λ k. h.0 (framed vs t v k).1, once_framed vs h.1)

  length_framed : (vs : List ℕ) → length (at_frame t vs) ≡ length vs
  unfolding at_frame
  length_framed [] = refl
  length_framed (v ∷ vs) = ap suc (length_framed vs)

-- the cells of two sets without a common one
pub cells_joined : (P Q R : ℕ → ℕ → Type 0) (m n : ℕ) → AreCells P m → AreCells Q n
    → ((t v : ℕ) → R t v ↔ (P t v ⊎ Q t v)) → ((t v : ℕ) → P t v → Q t v → ⊥) → AreCells R (m + n)
cells_joined P Q R m n a b either_way apart = record {
  cells = a.cells ++ b.cells;
  once = once_joined a.cells b.cells a.once b.once (λ c k l. apart c.0 c.1 ((a.each c.0 c.1).0 k) ((b.each c.0 c.1).0 l));
  each = λ t v. (
    λ h. elim (either a.cells b.cells (t, v) h) [
      | inl k ↦ (either_way t v).1 (inl ((a.each t v).0 k))
      | inr k ↦ (either_way t v).1 (inr ((b.each t v).0 k))
    ],
    λ r. elim ((either_way t v).0 r) [
      | inl k ↦ in_left a.cells b.cells (t, v) ((a.each t v).1 k)
      | inr k ↦ in_right a.cells b.cells (t, v) ((b.each t v).1 k)
    ],
  );
  count = length-append a.cells b.cells ∙ ap (λ k. k + length b.cells) a.count ∙ ap (λ k. m + k) b.count;
}

-- the same cells
pub cells_same : (P R : ℕ → ℕ → Type 0) (n : ℕ) → AreCells P n → ((t v : ℕ) → R t v ↔ P t v) → AreCells R n
cells_same P R n a same = record {
  cells = a.cells;
  once = a.once;
  each = λ t v. (λ h. (same t v).1 ((a.each t v).0 h), λ r. (a.each t v).1 ((same t v).0 r));
  count = a.count;
}

pub cells_none : (P : ℕ → ℕ → Type 0) → ((t v : ℕ) → P t v → ⊥) → AreCells P 0
cells_none P never = record {
  cells = [];
  once = tt;
  each = λ t v. (λ h. absurd (nothing (t, v) h), λ r. absurd (never t v r));
  count = refl;
}

one_cell : (s v : ℕ) → AreCells (λ t u. (t ≡ s) × (u ≡ v)) 1
one_cell s v = record {
  cells = (s, v) ∷ [];
  once = (nothing (s, v), tt);
  each = λ t u. (
    λ h. elim (Contains-cons (s, v) [] (t, u) h) [
      | inl e ↦ pair_same t u s v e
      | inr k ↦ absurd (nothing (t, u) k)
    ],
    λ k. subst (λ (n : ℕ). Contains {X = ℕ × ℕ} ((s, v) ∷ []) (t, n)) (sym k.1)
        (subst (λ (n : ℕ). Contains {X = ℕ × ℕ} ((s, v) ∷ []) (n, v)) (sym k.0) (here (s, v) [])),
  );
  count = refl;
}

-- the cells of a variable at the first n frames
pub column_cells : (v n : ℕ) → AreCells (λ t u. (t < n) × (u ≡ v)) n
column_cells v zero = cells_none _ (λ t u k. absurd (omega (arith, k.0)))
column_cells v (suc n) =
    let size : n + 1 ≡ suc n = omega arith in
    subst (AreCells (λ t u. (t < suc n) × (u ≡ v))) size
    (cells_joined (λ t u. (t < n) × (u ≡ v)) (λ t u. (t ≡ n) × (u ≡ v)) (λ t u. (t < suc n) × (u ≡ v)) n 1
    (column_cells v n) (one_cell n v)
    (λ t u. (
      λ k. elim (last t k.0) [ inl lt ↦ inl (lt, k.1) | inr e ↦ inr (e, k.1) ],
      λ k. elim k [ inl a ↦ (omega (arith, a.0), a.1) | inr b ↦ (omega (arith, b.0), b.1) ],
    ))
    (λ t u a b. absurd (omega (arith, a.0, b.0))))
  where
    last : (t : ℕ) → t < suc n → (t < n) ⊎ (t ≡ n)
    last t lt = grind arith

-- the cells of these variables at one frame
pub frame_cells : (s : ℕ) (vs : List ℕ) → IsOnce vs → AreCells (λ t v. (t ≡ s) × Contains vs v) (length vs)
frame_cells s vs once = record {
  cells = at_frame s vs;
  once = once_framed s vs once;
  each = λ t v. (
    framed s vs t v,
    λ k. subst (λ (n : ℕ). Contains (at_frame s vs) (n, v)) (sym k.0) (frames s vs v k.1),
  );
  count = length_framed s vs;
}

module _ (p : CircuitAndRows) (forced : List ℕ) where
  pub renewed_none : (first : ℕ) (old : List (List Tern)) → Renewed p forced first first old old 0 0
  renewed_none first old = record {
    others = λ t h. refl;
    current = λ t h. absurd (omega arith);
    touched = cells_none _ (λ t v h. absurd (omega arith));
    changed_cells = cells_none _ (λ t v h. absurd (omega arith));
  }

  -- one frame
  module _ (t e c : ℕ) (old new : List (List Tern)) (marks : List Bool) (others : (u : ℕ) → u ≢ t → row_at new u ≡ row_at old u)
      (h : PassEnds p t (Contains forced) (row_at old t) (row_at new t) marks e c) where
    only : (u : ℕ) → IsBetween t (t + 1) u → u ≡ t
    only u b = omega arith

    pub renewed_one : Renewed p forced t (t + 1) old new e c
    renewed_one = record {
      others = λ u k. others u (λ e. omega arith);
      current = λ u b. subst (λ (n : ℕ). IsCurrentRow p n (row_at new n)) (sym (only u b)) h.current;
      touched = record {
        cells = at_frame t h.touched_gates;
        once = once_framed t h.touched_gates h.once;
        each = λ s v. (
          λ i.
              let (e, k) = framed t h.touched_gates s v i in
              let (g, q, at, is) = gate_of p.circuit v (h.gates v k) in (
                (omega arith, omega arith),
                (
                  q,
                  g,
                  at,
                  is,
                  subst (λ (n : ℕ). IsTouched p n (Contains forced) (row_at old n) g) (sym e)
                      ((h.touched q g at).0 (subst (Contains h.touched_gates) (sym is) k)),
                ),
              ),
          λ (b, (q, g, at, is, k)).
              let e = only s b in
              let i : Contains h.touched_gates v = subst (Contains h.touched_gates) is ((h.touched q g at).1
              (subst (λ (n : ℕ). IsTouched p n (Contains forced) (row_at old n) g) e k)) in
              subst (λ (n : ℕ). Contains (at_frame t h.touched_gates) (n, v)) (sym e) (frames t h.touched_gates v i),
        );
        count = length_framed t h.touched_gates ∙ h.evaluated_is;
      };
      changed_cells = record {
        cells = at_frame t h.changed_gates;
        once = once_framed t h.changed_gates h.changed_once;
        each = λ s v. (
          λ i.
              let (e, k) = framed t h.changed_gates s v i in
              let d = (h.changes v).0 k in (
                (omega arith, omega arith),
                (d.0, subst (λ (n : ℕ). Differs p n (row_at old n) v) (sym e) d.1),
              ),
          λ (b, (k, d)).
              let e = only s b in
              let i : Contains h.changed_gates v =
              (h.changes v).1 (k, subst (λ (n : ℕ). Differs p n (row_at old n) v) e d) in
              subst (λ (n : ℕ). Contains (at_frame t h.changed_gates) (n, v)) (sym e) (frames t h.changed_gates v i),
        );
        count = length_framed t h.changed_gates ∙ h.changed_is;
      };
    }

  -- frames after frames
  module _ (a b n e f c d : ℕ) (old mid new : List (List Tern)) (le : a ≤ b) (more : b ≤ n)
      (x : Renewed p forced a b old mid e c) (y : Renewed p forced b n mid new f d) where
    before : (t : ℕ) → IsBetween a b t → row_at new t ≡ row_at mid t
    before t k = y.others t (inl k.1)

    after : (t : ℕ) → IsBetween b n t → row_at mid t ≡ row_at old t
    after t k = x.others t (inr k.0)

    split : (t : ℕ) → IsBetween a n t → IsBetween a b t ⊎ IsBetween b n t
    split t k = grind arith

    touched_after : (t v : ℕ) → IsBetween b n t → IsTouchedCell p forced mid t v → IsTouchedCell p forced old t v
    touched_after t v k (q, g, at, is, h) =
        (q, g, at, is, subst (λ (row : List Tern). IsTouched p t (Contains forced) row g) (after t k) h)

    touched_before : (t v : ℕ) → IsBetween b n t → IsTouchedCell p forced old t v → IsTouchedCell p forced mid t v
    touched_before t v k (q, g, at, is, h) =
        (q, g, at, is, subst (λ (row : List Tern). IsTouched p t (Contains forced) row g) (sym (after t k)) h)

    pub renewed_join : Renewed p forced a n old new (e + f) (c + d)
    renewed_join = record {
      others = λ t k. elim k [
        | inl lt ↦ y.others t (inl (omega arith)) ∙ x.others t (inl lt)
        | inr h ↦ y.others t (inr h) ∙ x.others t (inr (omega arith))
      ];
      current = λ t k. elim (split t k) [
        | inl i ↦ subst (IsCurrentRow p t) (sym (before t i)) (x.current t i)
        | inr i ↦ y.current t i
      ];
      touched = cells_joined _ _ _ e f x.touched y.touched (λ t v. (
        λ k. elim (split t k.0) [
          | inl i ↦ inl (i, k.1)
          | inr i ↦ inr (i, touched_before t v i k.1)
        ],
        λ k. elim k [
          | inl i ↦ ((omega arith, omega arith), i.1)
          | inr i ↦ ((omega arith, omega arith), touched_after t v i.0 i.1)
        ],
      )) (λ t v k l. omega arith);
      changed_cells = cells_joined _ _ _ c d x.changed_cells y.changed_cells (λ t v. (
        λ k. elim (split t k.0) [
          | inl i ↦ inl (i, k.1)
          | inr i ↦ inr (i, (k.1.0, subst (λ (row : List Tern). Differs p t row v) (sym (after t i)) k.1.1))
        ],
        λ k. elim k [
          | inl i ↦ ((omega arith, omega arith), i.1)
          | inr i ↦ (
            (omega arith, omega arith),
            (i.1.0, subst (λ (row : List Tern). Differs p t row v) (after t i.0) i.1.1),
          )
        ],
      )) (λ t v k l. omega arith);
    }

-- a list without an element
without : {X : Type 0} (ys : List X) (x : X) → Contains ys x
    → (zs : List X) × (length ys ≡ length zs + 1) × ((y : X) → Contains ys y → (y ≡ x) ⊎ Contains zs y)
without [] x h = absurd (nothing x h)
without (y ∷ ys) x h = elim (Contains-cons y ys x h) [
  | inl e ↦ (
    ys,
    omega arith,
    λ z k. elim (Contains-cons y ys z k) [ inl f ↦ inl (f ∙ sym e) | inr i ↦ inr i ],
  )
  | inr k ↦
      let (zs, size, f) = without ys x k in (
        y ∷ zs,
        omega arith,
        λ z j. elim (Contains-cons y ys z j) [
          | inl e ↦ inr (subst (Contains (y ∷ zs)) (sym e) (here y zs))
          | inr i ↦ elim (f z i) [ inl e ↦ inl e | inr l ↦ inr (in_tail y zs z l) ]
        ],
      )
]

fewer : {X : Type 0} (xs ys : List X) → IsOnce xs → ((x : X) → Contains xs x → Contains ys x) → length xs ≤ length ys
fewer [] ys once f = omega arith
fewer (x ∷ xs) ys once f =
    let (zs, size, g) = without ys x (f x (here x xs)) in
    let le = fewer xs zs once.1 (λ y k. elim (g y (f y (in_tail x xs y k))) [
      | inl e ↦ absurd (once.0 (subst (Contains xs) e k))
      | inr i ↦ i
    ]) in
    omega arith

-- there is one number of so many cells
pub one_count : (P : ℕ → ℕ → Type 0) (m n : ℕ) → AreCells P m → AreCells P n → m ≡ n
one_count P m n a b =
    let le = fewer a.cells b.cells a.once (λ c k. (b.each c.0 c.1).1 ((a.each c.0 c.1).0 k)) in
    let ge = fewer b.cells a.cells b.once (λ c k. (a.each c.0 c.1).1 ((b.each c.0 c.1).0 k)) in
    let x = a.count in
    let y = b.count in
    omega arith
