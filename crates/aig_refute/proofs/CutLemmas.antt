-- A run of a circuit, with the values of what was cut as its new inputs, is a run of the cut circuit.
use Rattle.std.proofs.Common.{◌≡◌, inl, inr, ℕ, zero, suc, ◌+◌, ◌<◌, List, [], ◌∷◌, ◌++◌, length, Contains}
use Rattle.std.proofs.Common.{Some, slice_get, refl, sym, ◌∙◌, ap, subst, arith, length-append, All}
use Rattle.std.proofs.lemmas.List.Elements.{All-tail}
use Rattle.std.proofs.lemmas.Option.{none-some, same_Some, slice_get_within}
use Rattle.aig_parts.specs.Literal.{variable}
use Rattle.aig_parts.specs.Ternary.{kleene_and}
use Rattle.aig_parts.specs.declared.latch.Latch.{Latch}
use Rattle.aig_parts.specs.declared.raw.Raw.{Raw}
use Rattle.aig_parts.specs.declared.ternary.Tern.{Tern}
use Rattle.aig_parts.specs.declared.ternary.Tern.TheVariants.{Zero, One, X}
use Rattle.aig_base.specs.Runs.{IsAllowed, ReachesBad, ReachesProperty}
use Rattle.aig_base.specs.Sections.{IsDefined}
use Rattle.aig_base.specs.Value as model
use Rattle.aig_base.specs.Value.{Value, Fits, HaveOneValue, reset_value}
use Rattle.aig_base.proofs.lists.Gets.{All-at}
use Rattle.aig_base.proofs.lists.Positions.{slice_get_left, slice_get_right, stands_at}
use Rattle.aig_cut.specs.Cut.{IsCut, StandsFor}
use Rattle.aig_refute.specs.Satisfiable.{KeepsConstraints}

and-one : (w : Tern) → kleene_and w One ≡ w
and-one Zero = refl
and-one One = refl
and-one X = refl

-- ---- the longer run

module _ (raw x : Raw) (e : IsCut raw x) (start : List Tern) (rows : List (List Tern)) (fits : Fits raw start rows)
    (one : HaveOneValue raw start rows) where
  abbrev Are : List ℕ → Type 0
  Are ls = All (λ l. IsDefined raw (variable l)) ls

  -- the values at frame t of these literals
  unfoldable values_at : (t : ℕ) → t < length rows → (ls : List ℕ) → Are ls → List Tern
  values_at t lt [] all = []
  values_at t lt (l ∷ ls) all =
      (one t l lt (all 0 l (omega arith))).0 ∷ values_at t lt ls (All-tail (λ m. IsDefined raw (variable m)) l ls all)

  values_many : (t : ℕ) (lt : t < length rows) (ls : List ℕ) (all : Are ls) → length (values_at t lt ls all) ≡ length ls
  unfolding values_at
  values_many t lt [] all = refl
  values_many t lt (l ∷ ls) all = ap suc (values_many t lt ls (All-tail (λ m. IsDefined raw (variable m)) l ls all))

  -- the value of the literal that stands at a position
  value_of_new : (t : ℕ) (lt : t < length rows) (ls : List ℕ) (all : Are ls) (k m : ℕ) → slice_get ls k ≡ Some m
      → (w : Tern) × (slice_get (values_at t lt ls all) k ≡ Some w) × Value raw start rows t m w
  unfolding values_at
  value_of_new t lt [] all k m at = absurd (none-some m at)
  value_of_new t lt (l ∷ ls) all zero m at =
      let v = one t l lt (all 0 l (omega arith)) in
      (v.0, refl, subst (λ (n : ℕ). Value raw start rows t n v.0) (same_Some l m at) v.1)
  value_of_new t lt (l ∷ ls) all (suc k) m at =
      value_of_new t lt ls (All-tail (λ n. IsDefined raw (variable n)) l ls all) k m at

  abbrev row_for : (t : ℕ) → t < length rows → List Tern → List Tern
  row_for t lt row = row ++ values_at t lt e.meant e.defined

  row_wide : (t : ℕ) (lt : t < length rows) (row : List Tern) → length row ≡ length raw.inputs
      → length (row_for t lt row) ≡ length x.inputs
  row_wide t lt row wide = omega (
    arith,
    wide,
    length-append row (values_at t lt e.meant e.defined),
    values_many t lt e.meant e.defined,
    e.paired,
    length-append raw.inputs e.new,
    ap length e.inputs_are,
  )

  first_below : (t : ℕ) (row : List Tern) (rest : List (List Tern)) → t + length (row ∷ rest) ≡ length rows → t < length rows
  first_below t row rest long = omega (arith, long)

  next_long : (t : ℕ) (row : List Tern) (rest : List (List Tern)) → t + length (row ∷ rest) ≡ length rows
      → suc t + length rest ≡ length rows
  next_long t row rest long = omega (arith, long)

  -- the rows from frame t on
  unfoldable longer_from : (t : ℕ) (rest : List (List Tern)) → t + length rest ≡ length rows → List (List Tern)
  longer_from t [] long = []
  longer_from t (row ∷ rest) long =
      row_for t (first_below t row rest long) row ∷ longer_from (suc t) rest (next_long t row rest long)

  longer_many : (t : ℕ) (rest : List (List Tern)) (long : t + length rest ≡ length rows)
      → length (longer_from t rest long) ≡ length rest
  unfolding longer_from
  longer_many t [] long = refl
  longer_many t (row ∷ rest) long = ap suc (longer_many (suc t) rest (next_long t row rest long))

  row_at : (t : ℕ) (rest : List (List Tern)) (long : t + length rest ≡ length rows) (i u : ℕ) (row : List Tern)
      → t + i ≡ u → slice_get rest i ≡ Some row
      → (lt : u < length rows) × (slice_get (longer_from t rest long) i ≡ Some (row_for u lt row))
  unfolding longer_from
  row_at t [] long i u row sum at = absurd (none-some row at)
  row_at t (r ∷ rest) long zero u row sum at =
      let lt = first_below t r rest long in
      let now : t ≡ u = omega (arith, sum) in
      let same : r ≡ row = same_Some r row at in
      subst (λ (v : ℕ). (below : v < length rows) × (Some (row_for t lt r) ≡ Some (row_for v below row))) now
      (lt, ap (λ (q : List Tern). Some (row_for t lt q)) same)
  row_at t (r ∷ rest) long (suc i) u row sum at =
      row_at (suc t) rest (next_long t r rest long) i u row (omega (arith, sum)) at

  all_long : 0 + length rows ≡ length rows
  all_long = omega arith

  abbrev longer_rows : List (List Tern)
  longer_rows = longer_from 0 rows all_long

  row_there : (t : ℕ) (row : List Tern) → slice_get rows t ≡ Some row
      → (lt : t < length rows) × (slice_get longer_rows t ≡ Some (row_for t lt row))
  row_there t row is = row_at 0 rows all_long t t row (omega arith) is

  -- ---- its values

  abbrev Has : ℕ → ℕ → Tern → Type 0
  Has t l w = Value x start longer_rows t l w

  new_input : (t : ℕ) → t < length rows → (l m : ℕ) (w : Tern) → StandsFor e.new e.meant l m
      → Value raw start rows t m w → Has t l w
  new_input t lt l m w (k, at, stands) v =
      let (row, here) = stands_at rows t lt in
      let (below, there) = row_there t row here in
      let found = value_of_new t below e.meant e.defined k m stands in
      let only = one t m lt (All-at (λ (n : ℕ). IsDefined raw (variable n)) e.meant k m e.defined stands) in
      let same : found.0 ≡ w = only.2 found.0 found.2 ∙ sym (only.2 w v) in
      let wide : length row ≡ length raw.inputs =
      All-at (λ (r : List Tern). length r ≡ length raw.inputs) rows t row fits.inputs here in
      let cell : slice_get (row_for t below row) (length raw.inputs + k) ≡ Some w =
      subst (λ (n : ℕ). slice_get (row_for t below row) (n + k) ≡ Some w) wide
      (slice_get_right row (values_at t below e.meant e.defined) k found.0 found.1 ∙ ap Some same) in
      model.input t (length raw.inputs + k) l w (row_for t below row)
      (ap (λ ls. slice_get ls (length raw.inputs + k)) e.inputs_are ∙ slice_get_right raw.inputs e.new k l at) there cell

  latch_there : (p : ℕ) (y : Latch) → slice_get raw.latches p ≡ Some y → (z : Latch) × (slice_get x.latches p ≡ Some z)
  latch_there p y at = stands_at x.latches p (omega (arith, slice_get_within raw.latches p y at, e.latches_many))

  stays : {t l : ℕ} {w : Tern} → t < length rows → Value raw start rows t l w → Has t l w
  stays lt (model.constant_false t) = model.constant_false t
  stays lt (model.constant_true t) = model.constant_true t
  stays lt (model.input t p l w row at is cell) =
      let (below, there) = row_there t row is in
      model.input t p l w (row_for t below row)
      (ap (λ ls. slice_get ls p) e.inputs_are ∙ slice_get_left raw.inputs e.new p l at) there
      (slice_get_left row (values_at t below e.meant e.defined) p w cell)
  stays lt (model.latch_first p y w at is) =
      let (z, there) = latch_there p y at in
      subst (λ (l : ℕ). Has 0 l w) (e.latches_are p y z at there).lit (model.latch_first p z w there is)
  stays lt (model.latch_next t p y w at v) =
      let (z, there) = latch_there p y at in
      let c = e.latches_are p y z at there in
      let before : t < length rows = omega (arith, lt) in
      let next : Has t z.next w = elim c.next [
        | inl same ↦ subst (λ (l : ℕ). Has t l w) (sym same) (stays before v)
        | inr new ↦ new_input t before z.next y.next w new v
      ] in
      subst (λ (l : ℕ). Has (suc t) l w) c.lit (model.latch_next t p z w there next)
  stays lt (model.gate t q g a b at va vb) =
      let (h, there, c) = e.gates_are q g at in
      let value : Has t h.lhs (kleene_and a b) = elim c.sides [
        | inl same ↦ model.gate t q h a b there (subst (λ (l : ℕ). Has t l a) (sym same.0) (stays lt va))
            (subst (λ (l : ℕ). Has t l b) (sym same.1) (stays lt vb))
        | inr free ↦ subst (λ (u : Tern). Has t h.lhs u) (and-one (kleene_and a b))
            (model.gate t q h (kleene_and a b) One there
            (new_input t lt h.rhs0 g.lhs (kleene_and a b) free.0 (model.gate t q g a b at va vb))
            (subst (λ (l : ℕ). Has t l One) (sym free.1) (model.constant_true t)))
      ] in
      subst (λ (l : ℕ). Has t l (kleene_and a b)) c.lhs value
  stays lt (model.negated t l w over neg v) = model.negated t l w over neg (stays lt v)

  -- ---- the run

  wide_from : (t : ℕ) (rest : List (List Tern)) (long : t + length rest ≡ length rows)
      → All (λ row. length row ≡ length raw.inputs) rest → All (λ row. length row ≡ length x.inputs) (longer_from t rest long)
  unfolding longer_from
  wide_from t [] long all k d l = absurd (omega (arith, l))
  wide_from t (row ∷ rest) long all zero d l = row_wide t (first_below t row rest long) row (all 0 row (omega arith))
  wide_from t (row ∷ rest) long all (suc k) d l =
      wide_from (suc t) rest (next_long t row rest long) (All-tail (λ (r : List Tern). length r ≡ length raw.inputs) row rest all)
      k d (omega (arith, l))

  longer_fits : Fits x start longer_rows
  longer_fits = record {
    latches = omega (arith, fits.latches, e.latches_many);
    inputs = wide_from 0 rows all_long fits.inputs;
  }

  longer_allowed : IsAllowed raw start → IsAllowed x start
  longer_allowed allowed p z w at is =
      let (y, here) = stands_at raw.latches p (omega (arith, slice_get_within x.latches p z at, e.latches_many)) in
      let c = e.latches_are p y z here at in
      elim c.reset [
        | inl same ↦ elim (allowed p y w here is) [
          | inl any ↦ inl (same ∙ any ∙ sym c.lit)
          | inr value ↦ inr (value ∙ ap reset_value (sym same))
        ]
        | inr own ↦ inl own
      ]

  reaches : (t b : ℕ) → t < length rows → ReachesBad raw start rows t b → ReachesBad x start longer_rows t b
  reaches t b lt (bad, all) = (
    stays lt bad,
    λ s c le has. elim (e.constraints_are c has) [
      | inl is ↦ subst (λ (l : ℕ). Has s l One) (sym is) (model.constant_true s)
      | inr old ↦ stays (omega (arith, le, lt)) (all s c le old)
    ],
  )

  kept : (t : ℕ) → t < length rows → (c : ℕ) → (Contains raw.constraints c → Value raw start rows t c One)
      → Contains x.constraints c → Has t c One
  kept t lt c all has = elim (e.constraints_are c has) [
    | inl is ↦ subst (λ (l : ℕ). Has t l One) (sym is) (model.constant_true t)
    | inr old ↦ stays lt (all old)
  ]

-- ---- what the circuit reaches, the cut one does

pub carried : (raw x : Raw) → IsCut raw x → (start : List Tern) (rows : List (List Tern))
    → (Fits raw start rows → HaveOneValue raw start rows) → (t p : ℕ) → ReachesProperty raw start rows t p
    → (longer : List (List Tern)) × ReachesProperty x start longer t p
carried raw x e start rows one t p (fits, allowed, lt, (b, here, reached)) = (
  longer_rows raw x e start rows fits (one fits),
  (
    longer_fits raw x e start rows fits (one fits),
    longer_allowed raw x e start rows fits (one fits) allowed,
    (let many = longer_many raw x e start rows fits (one fits) 0 rows (all_long raw x e start rows fits (one fits)) in
        omega (arith, lt, many)),
    (
      b,
      ap (λ bs. slice_get bs p) e.bad_are ∙ here,
      reaches raw x e start rows fits (one fits) t b lt reached,
    ),
  ),
)

pub carried_alive : (raw x : Raw) → IsCut raw x → (start : List Tern) (rows : List (List Tern))
    → (Fits raw start rows → HaveOneValue raw start rows) → (k : ℕ) → KeepsConstraints raw k start rows
    → (longer : List (List Tern)) × KeepsConstraints x k start longer
carried_alive raw x e start rows one k (fits, allowed, long, all) = (
  longer_rows raw x e start rows fits (one fits),
  (
    longer_fits raw x e start rows fits (one fits),
    longer_allowed raw x e start rows fits (one fits) allowed,
    (let many = longer_many raw x e start rows fits (one fits) 0 rows (all_long raw x e start rows fits (one fits)) in
        omega (arith, long, many)),
    λ t c lt has. kept raw x e start rows fits (one fits) t (omega (arith, lt, long)) c (λ old. all t c lt old) has,
  ),
)
