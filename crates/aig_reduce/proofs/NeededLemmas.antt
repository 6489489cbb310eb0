-- What a run needs: a look back from what has to be 1.
use Rattle.std.proofs.Common.{◌≡◌, ◌≢◌, ◌⊎◌, inl, inr, ℕ, zero, suc, ◌-◌, ◌*◌, ◌%◌, ◌<◌, List, [], ◌∷◌, ◌++◌, Bool, true}
use Rattle.std.proofs.Common.{length, replicate, Some, slice_get, slice_set, refl, sym}
use Rattle.std.proofs.Common.{ap, ◌∙◌, subst, arith}
use Rattle.std.specs.List.{AllZip}
use Rattle.std.proofs.lemmas.Bool.{cases_eq}
use Rattle.std.proofs.lemmas.List.{get_or-replicate, length-map, length-replicate}
use Rattle.std.proofs.lemmas.Option.{get_or_from_slice_get, slice_get-get_or, slice_get_within}
use Rattle.std.proofs.lemmas.Slice.Zip.{AllZip-long}
use Rattle.aig_parts.specs.Literal.{variable}
use Rattle.aig_parts.specs.Ternary.{kleene_and}
use Rattle.aig_parts.specs.declared.gate.Gate.{Gate}
use Rattle.aig_parts.specs.declared.latch.Latch.{Latch}
use Rattle.aig_parts.specs.declared.ternary.Tern.{Tern}
use Rattle.aig_parts.specs.declared.ternary.Tern.TheVariants.{Zero, One, X}
use Rattle.aig_parts.specs.declared.raw.Raw.{Raw}
use Rattle.aig_base.specs.Circuit.{IsCircuit}
use Rattle.aig_base.specs.Sections.{IsDefined}
use Rattle.aig_base.specs.Sound.{IsDefinition}
use Rattle.aig_base.specs.Value as value
use Rattle.aig_base.specs.Value.{Value, reset_value, start_of}
use Rattle.aig_base.specs.state.Marks.{IsMarked}
use Rattle.aig_base.proofs.circuits.Circuits.{gate_definition, input_definition, latch_definition, rhs0_defined}
use Rattle.aig_base.proofs.circuits.Circuits.{rhs1_defined}
use Rattle.aig_base.proofs.values.OneValue.{have_one_value}
use Rattle.aig_base.proofs.values.UniqueValue.{unique}
use Rattle.aig_values.specs.InputRows.{HaveWidth, row_at, with_cell}
use Rattle.aig_values.proofs.Evaluation.{even_or_odd}
use Rattle.aig_bench.proofs.cells.CellLemmas.{get_set_other, row_other, row_written}
use Rattle.aig_bench.specs.BenchState.{CircuitAndRows, HasValue}
use Rattle.aig_reduce.specs.Irreducible.{IsSameOrX}
use Rattle.aig_reduce.specs.state.Needed.{AddsNeeded, AreFollowing, AreNeeded, AreNeededCells, AreNeededInputs}
use Rattle.aig_reduce.specs.state.Needed.{AreNeededStarts, Follows, IsListed, IsNeeded}
use Rattle.aig_reduce.specs.state.Needed.{StillReaches}
use Rattle.aig_reduce.proofs.CoveredValues.{covered}
use Rattle.aig_reduce.proofs.Irreducibles.{shaped_widths, cover_shape}
use Rattle.aig_reduce.proofs.Places.{row_within}

-- ---- marks

-- one variable is marked besides
pub marked_then : (marks : List Bool) (v u : ℕ) → IsMarked (slice_set marks v true) u → (u ≡ v → ⊥) → IsMarked marks u
marked_then marks v u m other = sym (get_set_other marks v u true other) ∙ m

-- a variable is marked, where it is needed
pub one_added : (p : CircuitAndRows) (property t v : ℕ) (old new : List Bool)
    → ((u : ℕ) → IsMarked new u → IsMarked old u ⊎ (u ≡ v)) → (AreNeeded p property t old → IsNeeded p property t v)
    → AddsNeeded p property t old new
one_added p property t v old new more h n u m = elim (more u m) [
  | inl before ↦ n u before
  | inr same ↦ subst (IsNeeded p property t) (sym same) (h n)
]

-- ---- what is x

even_literal : (l : ℕ) → l % 2 ≡ 0 → 2 * variable l ≡ l
even_literal l e = omega (arith, e)

odd_literal : (l : ℕ) → l % 2 ≡ 1 → 2 * variable l ≡ l - 1
odd_literal l e = omega (arith, e)

module _ (raw : Raw) (start : List Tern) (rows : List (List Tern)) where
  -- a literal is x where its variable is
  pub literal_x : (t l : ℕ) → IsCircuit raw → Value raw start rows t (2 * variable l) X → Value raw start rows t l X
  literal_x t l circuit v = elim (even_or_odd l) [
    | inl e ↦ subst (λ (n : ℕ). Value raw start rows t n X) (even_literal l e) v
    | inr e ↦ elim (cases_eq l 1) [
      | inl one ↦
          let zero_is : 2 * variable l ≡ 0 = omega (arith, one) in
          let no : X ≡ Zero = unique raw start rows circuit.sound
          (subst (λ (n : ℕ). Value raw start rows t n X) zero_is v) (value.constant_false t) in
          let none : ⊥ = cc in absurd none
      | inr more ↦
          value.negated t l X (omega (arith, e, more)) e
          (subst (λ (n : ℕ). Value raw start rows t n X) (odd_literal l e) v)
    ]
  ]

  -- and the variable where the literal is
  pub definition_x : (t l : ℕ) → IsDefinition l → Value raw start rows t l X → Value raw start rows t (2 * variable l) X
  definition_x t l d v = subst (λ (n : ℕ). Value raw start rows t n X) (sym (even_literal l d.0)) v

x_and : (b : Tern) → b ≢ Zero → kleene_and X b ≡ X
x_and Zero n = absurd (n refl)
x_and One n = refl
x_and X n = refl

and_x : (a : Tern) → a ≢ Zero → kleene_and a X ≡ X
and_x Zero n = absurd (n refl)
and_x One n = refl
and_x X n = refl

zero_stays : (a b : Tern) → IsSameOrX a b → b ≢ Zero → a ≢ Zero
zero_stays a b (inl e) n z = let no : ⊥ = cc in no
zero_stays a b (inr e) n z = n (sym e ∙ z)

module _ (p : CircuitAndRows) (circuit : IsCircuit p.circuit) (widths : HaveWidth (length p.circuit.inputs) p.rows)
    (property : ℕ) where
  module _ (start : List Tern) (rows : List (List Tern)) (k : StillReaches p property start rows) where
    frames : length rows ≡ length p.rows
    frames = sym (AllZip-long (AllZip IsSameOrX) rows p.rows k.inputs)

    latches : length start ≡ length p.circuit.latches
    latches =
        sym (AllZip-long IsSameOrX start (start_of p.circuit) k.starts)
        ∙ length-map p.circuit.latches (λ (x : Latch). reset_value x.reset)

    -- a literal that is not 0 in the pair's run is not 0 in this one
    other_not_zero : (t l : ℕ) → t < length p.rows → IsDefined p.circuit (variable l) → (HasValue p t l Zero → ⊥)
        → (a : Tern) × Value p.circuit start rows t l a × (a ≢ Zero)
    other_not_zero t l lt defined denied =
        let (a, v, only) = have_one_value p.circuit start rows circuit.sound circuit.acyclic (record {
          latches = latches;
          inputs = shaped_widths (length p.circuit.inputs) rows p.rows (sym (cover_shape rows p.rows k.inputs)) widths;
        }) t l (omega (arith, lt, frames)) defined in
        let (b, w, by) = covered p.circuit start (start_of p.circuit) rows p.rows k.starts k.inputs v in
        (a, v, zero_stays a b by (λ e. denied (subst (λ (z : Tern). HasValue p t l z) e w)))

  -- a constraint is needed at each frame, and the property at the last
  pub constraint_needed : (t i l : ℕ) → t < length p.rows → slice_get p.circuit.constraints i ≡ Some l
      → IsNeeded p property t (variable l)
  constraint_needed t i l lt at start rows k x =
      let no : X ≡ One = unique p.circuit start rows circuit.sound (literal_x p.circuit start rows t l circuit x)
      (k.constrained t i l lt at) in
      let none : ⊥ = cc in none

  pub bad_needed : (t l : ℕ) → suc t ≡ length p.rows → slice_get p.circuit.bad property ≡ Some l
      → IsNeeded p property t (variable l)
  bad_needed t l last at start rows k x =
      let same : length p.rows - 1 ≡ t = omega (arith, last) in
      let no : X ≡ One = unique p.circuit start rows circuit.sound (literal_x p.circuit start rows t l circuit x)
      (subst (λ (n : ℕ). Value p.circuit start rows n l One) same (k.bad l at)) in
      let none : ⊥ = cc in none

  -- the next state of a latch that is needed at the next frame
  pub next_needed : (t i : ℕ) (x : Latch) → slice_get p.circuit.latches i ≡ Some x
      → IsNeeded p property (suc t) (variable x.lit) → IsNeeded p property t (variable x.next)
  next_needed t i x at h start rows k v =
      h start rows k
      (definition_x p.circuit start rows (suc t) x.lit (latch_definition p.circuit circuit.sound i x at)
      (value.latch_next t i x X at (literal_x p.circuit start rows t x.next circuit v)))

  -- a side of a needed gate whose other side is not 0
  module _ (t q : ℕ) (g : Gate) (lt : t < length p.rows) (at : slice_get p.circuit.gates q ≡ Some g)
      (h : IsNeeded p property t (variable g.lhs)) where
    pub rhs0_needed : (HasValue p t g.rhs1 Zero → ⊥) → IsNeeded p property t (variable g.rhs0)
    rhs0_needed denied start rows k v =
        let (b, vb, n) = other_not_zero start rows k t g.rhs1 lt (rhs1_defined p.circuit circuit.sound q g at) denied in
        h start rows k
        (definition_x p.circuit start rows t g.lhs (gate_definition p.circuit circuit.sound q g at)
        (subst (λ (z : Tern). Value p.circuit start rows t g.lhs z) (x_and b n)
        (value.gate t q g X b at (literal_x p.circuit start rows t g.rhs0 circuit v) vb)))

    pub rhs1_needed : (HasValue p t g.rhs0 Zero → ⊥) → IsNeeded p property t (variable g.rhs1)
    rhs1_needed denied start rows k v =
        let (a, va, n) = other_not_zero start rows k t g.rhs0 lt (rhs0_defined p.circuit circuit.sound q g at) denied in
        h start rows k
        (definition_x p.circuit start rows t g.lhs (gate_definition p.circuit circuit.sound q g at)
        (subst (λ (z : Tern). Value p.circuit start rows t g.lhs z) (and_x a n)
        (value.gate t q g a X at va (literal_x p.circuit start rows t g.rhs1 circuit v))))

  -- ---- what is x where a value is

  pub input_follows : (t i l : ℕ) → slice_get p.circuit.inputs i ≡ Some l → Follows p property t (suc t) i (variable l)
  input_follows t i l at start rows k x =
      definition_x p.circuit start rows t l (input_definition p.circuit circuit.sound i l at)
      (value.input t i l X (row_at rows t) at (slice_get-get_or rows t [] (row_within rows t i X x)) x)

  pub start_follows : (i : ℕ) (x : Latch) → slice_get p.circuit.latches i ≡ Some x
      → Follows p property 0 0 i (variable x.lit)
  start_follows i x at start rows k is =
      definition_x p.circuit start rows 0 x.lit (latch_definition p.circuit circuit.sound i x at)
      (value.latch_first i x X at is)

  -- a gate with a side that is, whose other side is too, or is not 0
  module _ (t q m i : ℕ) (g : Gate) (lt : t < length p.rows) (at : slice_get p.circuit.gates q ≡ Some g) where
    pub rhs0_follows : Follows p property t m i (variable g.rhs0)
        → (Follows p property t m i (variable g.rhs1) ⊎ (HasValue p t g.rhs1 Zero → ⊥))
        → Follows p property t m i (variable g.lhs)
    rhs0_follows f (inl h) start rows k x =
        definition_x p.circuit start rows t g.lhs (gate_definition p.circuit circuit.sound q g at)
        (value.gate t q g X X at (literal_x p.circuit start rows t g.rhs0 circuit (f start rows k x))
        (literal_x p.circuit start rows t g.rhs1 circuit (h start rows k x)))
    rhs0_follows f (inr denied) start rows k x =
        let (b, vb, n) = other_not_zero start rows k t g.rhs1 lt (rhs1_defined p.circuit circuit.sound q g at) denied in
        definition_x p.circuit start rows t g.lhs (gate_definition p.circuit circuit.sound q g at)
        (subst (λ (z : Tern). Value p.circuit start rows t g.lhs z) (x_and b n)
        (value.gate t q g X b at (literal_x p.circuit start rows t g.rhs0 circuit (f start rows k x)) vb))

    pub rhs1_follows : Follows p property t m i (variable g.rhs1)
        → (Follows p property t m i (variable g.rhs0) ⊎ (HasValue p t g.rhs0 Zero → ⊥))
        → Follows p property t m i (variable g.lhs)
    rhs1_follows f (inl h) start rows k x =
        definition_x p.circuit start rows t g.lhs (gate_definition p.circuit circuit.sound q g at)
        (value.gate t q g X X at (literal_x p.circuit start rows t g.rhs0 circuit (h start rows k x))
        (literal_x p.circuit start rows t g.rhs1 circuit (f start rows k x)))
    rhs1_follows f (inr denied) start rows k x =
        let (a, va, n) = other_not_zero start rows k t g.rhs0 lt (rhs0_defined p.circuit circuit.sound q g at) denied in
        definition_x p.circuit start rows t g.lhs (gate_definition p.circuit circuit.sound q g at)
        (subst (λ (z : Tern). Value p.circuit start rows t g.lhs z) (and_x a n)
        (value.gate t q g a X at va (literal_x p.circuit start rows t g.rhs1 circuit (f start rows k x))))

  -- ---- values

  pub input_needed : (t i l : ℕ) → slice_get p.circuit.inputs i ≡ Some l → IsNeeded p property t (variable l)
      → (start : List Tern) (rows : List (List Tern)) → StillReaches p property start rows
      → slice_get (row_at rows t) i ≡ Some X → ⊥
  input_needed t i l at h start rows k x =
      h start rows k
      (definition_x p.circuit start rows t l (input_definition p.circuit circuit.sound i l at)
      (value.input t i l X (row_at rows t) at (slice_get-get_or rows t [] (row_within rows t i X x)) x))

  pub start_needed : (i : ℕ) (x : Latch) → slice_get p.circuit.latches i ≡ Some x → IsNeeded p property 0 (variable x.lit)
      → (start : List Tern) (rows : List (List Tern)) → StillReaches p property start rows
      → slice_get start i ≡ Some X → ⊥
  start_needed i x at h start rows k is =
      h start rows k
      (definition_x p.circuit start rows 0 x.lit (latch_definition p.circuit circuit.sound i x at)
      (value.latch_first i x X at is))

  -- one more needed value is kept
  input_written : (needed : List (List Tern)) (t i l : ℕ) (w : Tern) → t < length needed
      → slice_get p.circuit.inputs i ≡ Some l → IsNeeded p property t (variable l) → AreNeededInputs p property needed
      → AreNeededInputs p property (with_cell needed t i w)
  input_written needed t i l w lt at h all u j b is n start rows k x = elim (cases_eq u t) [
    | inl e ↦
        let x' : slice_get (row_at rows t) j ≡ Some X = subst (λ (v : ℕ). slice_get (row_at rows v) j ≡ Some X) e x in
        elim (cases_eq j i) [
          | inl f ↦
              input_needed t i l at h start rows k (subst (λ (v : ℕ). slice_get (row_at rows t) v ≡ Some X) f x')
          | inr other ↦
              let is' : slice_get (row_at (with_cell needed t i w) t) j ≡ Some b =
              subst (λ (v : ℕ). slice_get (row_at (with_cell needed t i w) v) j ≡ Some b) e is in
              all t j b
              (sym (ap (λ (row : List Tern). slice_get row j) (row_written needed t i w lt)
              ∙ get_set_other (row_at needed t) i j w other) ∙ is') n start rows k x'
        ]
    | inr other ↦
        all u j b (sym (ap (λ (row : List Tern). slice_get row j) (row_other needed t i w u other)) ∙ is) n start rows k x
  ]

  pub input_kept : (needed new : List (List Tern)) (t i l : ℕ) (w : Tern) → new ≡ with_cell needed t i w → t < length needed
      → slice_get p.circuit.inputs i ≡ Some l → IsNeeded p property t (variable l) → AreNeededInputs p property needed
      → AreNeededInputs p property new
  input_kept needed new t i l w e lt at h all =
      subst (AreNeededInputs p property) (sym e) (input_written needed t i l w lt at h all)

  pub start_kept : (needed : List Tern) (i : ℕ) (x : Latch) (w : Tern) → slice_get p.circuit.latches i ≡ Some x
      → IsNeeded p property 0 (variable x.lit) → AreNeededStarts p property needed
      → AreNeededStarts p property (slice_set needed i w)
  start_kept needed i x w at h all j b is n start rows k x_is = elim (cases_eq j i) [
    | inl f ↦
        start_needed i x at h start rows k (subst (λ (v : ℕ). slice_get start v ≡ Some X) f x_is)
    | inr other ↦ all j b (sym (get_set_other needed i j w other) ∙ is) n start rows k x_is
  ]

-- one more needed variable is noted
module _ (p : CircuitAndRows) (property : ℕ) where
  cell_written : (cells : List (List Tern)) (t i : ℕ) (w : Tern) → t < length cells → IsNeeded p property t i
      → AreNeededCells p property cells → AreNeededCells p property (with_cell cells t i w)
  cell_written cells t i w lt h all u j b is n = elim (cases_eq u t) [
    | inl e ↦ elim (cases_eq j i) [
      | inl f ↦ subst (λ (v : ℕ). IsNeeded p property v j) (sym e) (subst (IsNeeded p property t) (sym f) h)
      | inr other ↦
          let is' : slice_get (row_at (with_cell cells t i w) t) j ≡ Some b =
          subst (λ (v : ℕ). slice_get (row_at (with_cell cells t i w) v) j ≡ Some b) e is in
          subst (λ (v : ℕ). IsNeeded p property v j) (sym e)
          (all t j b
          (sym (ap (λ (row : List Tern). slice_get row j) (row_written cells t i w lt)
          ∙ get_set_other (row_at cells t) i j w other) ∙ is') n)
    ]
    | inr other ↦ all u j b (sym (ap (λ (row : List Tern). slice_get row j) (row_other cells t i w u other)) ∙ is) n
  ]

  pub cell_kept : (cells new : List (List Tern)) (t i : ℕ) (w : Tern) → new ≡ with_cell cells t i w → t < length cells
      → IsNeeded p property t i → AreNeededCells p property cells → AreNeededCells p property new
  cell_kept cells new t i w e lt h all = subst (AreNeededCells p property) (sym e) (cell_written cells t i w lt h all)

-- what is listed besides is x too
pub met_follows : (p : CircuitAndRows) (property t m i v : ℕ) (old new : List ℕ)
    → ((u : ℕ) → IsListed new u → IsListed old u ⊎ (u ≡ v)) → Follows p property t m i v
    → AreFollowing p property t m i old → AreFollowing p property t m i new
met_follows p property t m i v old new more h all u at = elim (more u at) [
  | inl before ↦ all u before
  | inr e ↦ subst (Follows p property t m i) (sym e) h
]

-- the other side of a gate
pub other_follows : (p : CircuitAndRows) (property t m i v l : ℕ) (list : List ℕ) → AreFollowing p property t m i list
    → (IsListed list v ⊎ (HasValue p t l Zero → ⊥)) → Follows p property t m i v ⊎ (HasValue p t l Zero → ⊥)
other_follows p property t m i v l list all (inl at) = inl (all v at)
other_follows p property t m i v l list all (inr denied) = inr denied

nothing_listed : (v : ℕ) → IsListed [] v → ⊥
nothing_listed v (zero, at) = let no : ⊥ = cc in no
nothing_listed v (suc k, at) = let no : ⊥ = cc in no

pub none_listed : (list : List ℕ) (v : ℕ) → list ≡ [] → IsListed list v → ⊥
none_listed list v e listed = nothing_listed v (subst (λ (xs : List ℕ). IsListed xs v) e listed)

-- ---- x at all places

pub x_alone : (size i : ℕ) (w : Tern) (row : List Tern) → row ≡ replicate size X → slice_get row i ≡ Some w → w ≡ X
x_alone size i w row e is =
    let at : slice_get (replicate size X) i ≡ Some w = ap (λ (xs : List Tern). slice_get xs i) (sym e) ∙ is in
    let lt = slice_get_within (replicate size X) i w at in
    sym (get_or_from_slice_get (replicate size X) i w X at)
    ∙ get_or-replicate {A = Tern} size i X X (omega (arith, lt, length-replicate {A = Tern} size X))

pub x_more : (rows : List (List Tern)) (row : List Tern)
    → ((t i : ℕ) (w : Tern) → slice_get (row_at rows t) i ≡ Some w → w ≡ X)
    → ((i : ℕ) (w : Tern) → slice_get row i ≡ Some w → w ≡ X)
    → (t i : ℕ) (w : Tern) → slice_get (row_at (rows ++ row ∷ []) t) i ≡ Some w → w ≡ X
x_more [] row all one zero i w is = one i w is
x_more [] row all one (suc t) i w is = let no : ⊥ = cc in absurd no
x_more (r ∷ rows) row all one zero i w is = all zero i w is
x_more (r ∷ rows) row all one (suc t) i w is = x_more rows row (λ u j v at. all (suc u) j v at) one t i w is

-- no rows have no values
pub none_there : (t i : ℕ) (w : Tern) → slice_get (row_at [] t) i ≡ Some w → w ≡ X
none_there zero i w is = let no : ⊥ = cc in absurd no
none_there (suc t) i w is = let no : ⊥ = cc in absurd no
