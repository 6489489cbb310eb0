-- The cells of a frame become the values, write by write.
use Rattle.std.proofs.Common.{◌≡◌, ◌≢◌, ◌⊎◌, inl, inr, ℕ, zero, suc, ◌+◌, ◌-◌, ◌*◌, ◌%◌, ◌<◌, ◌≤◌, List, [], ◌∷◌}
use Rattle.std.proofs.Common.{length, Some, slice_get, slice_set, get_or, set, refl, sym, ap, ◌∙◌, subst, arith}
use Rattle.std.proofs.lemmas.Option.{slice_get-get_or, get_or_from_slice_get, slice_get_within, slice_get_read}
use Rattle.std.proofs.lemmas.Bool.{cases_eq}
use Rattle.std.proofs.lemmas.List.{length-set, get_or-set_same}
use Rattle.aig_parts.specs.declared.ternary.Tern.{Tern}
use Rattle.aig_parts.specs.declared.ternary.Tern.TheVariants.{Zero, X}
use Rattle.aig_parts.specs.declared.gate.Gate.{Gate}
use Rattle.aig_parts.specs.declared.latch.Latch.{Latch}
use Rattle.aig_parts.specs.declared.raw.Raw.{Raw}
use Rattle.aig_parts.specs.Literal.{variable}
use Rattle.aig_parts.specs.Ternary.{kleene_not}
use Rattle.aig_base.specs.Sound.{IsSound, IsDefinition}
use Rattle.aig_base.specs.Grounded.{IsSource}
use Rattle.aig_base.specs.Grounded as grounded
use Rattle.aig_base.specs.Value as value
use Rattle.aig_base.specs.Value.{Value}
use Rattle.aig_base.proofs.circuits.Defined.{even, defined_cases}
use Rattle.aig_base.proofs.values.Refined.{AllZip-slice_get}
use Rattle.aig_base.proofs.values.UniqueValue.{unique}
use Rattle.aig_values.specs.Cells.{literal_value, gate_value}
use Rattle.aig_values.specs.state.Frame.{Holds, Renews, HoldsInputs, HoldsLatches, HoldsSources, HoldsAll, AreStates}
use Rattle.aig_values.specs.GateOrder.{IsSourceOrEarlier, IsGateOrder}
use Rattle.aig_base.proofs.circuits.Circuits.{input_definition, latch_definition, gate_definition}

-- what holds of the first n items, and of the next
pub items_more : {A : Type 0} (P : A → Type 0) (xs : List A) (n : ℕ) (x : A) → slice_get xs n ≡ Some x
    → ((i : ℕ) (y : A) → i < n → slice_get xs i ≡ Some y → P y) → P x
    → (i : ℕ) (y : A) → i < n + 1 → slice_get xs i ≡ Some y → P y
items_more P xs n x at before here i y lt is = elim (cases_eq i n) [
  | inl e ↦
      let same : slice_get xs i ≡ Some x = ap (slice_get xs) e ∙ at in
      let f : x ≡ y = cc in
      subst P f here
  | inr ne ↦ before i y (omega arith) is
]

-- what holds of the first n items where there are no more
pub items_all : {A : Type 0} (P : A → Type 0) (xs : List A) (n : ℕ) → length xs ≤ n
    → ((i : ℕ) (y : A) → i < n → slice_get xs i ≡ Some y → P y) → (i : ℕ) (y : A) → slice_get xs i ≡ Some y → P y
items_all P xs n le before i y is = let w = slice_get_within xs i y is in before i y (omega arith) is

pub get_set_same : {A : Type 0} (row : List A) (v : ℕ) (w : A) → v < length row → slice_get (slice_set row v w) v ≡ Some w
get_set_same row v w lt =
    let within : v < length (set row v w) = rw length-set lt in
    slice_get-get_or (set row v w) v w within ∙ ap Some (get_or-set_same row v w w lt)

pub get_set_other : {A : Type 0} (row : List A) (u v : ℕ) (w : A) → v ≢ u → slice_get (slice_set row u w) v
    ≡ slice_get row v
get_set_other [] u v w ne = refl
get_set_other (x ∷ xs) zero zero w ne = absurd (ne refl)
get_set_other (x ∷ xs) zero (suc v) w ne = refl
get_set_other (x ∷ xs) (suc u) zero w ne = refl
get_set_other (x ∷ xs) (suc u) (suc v) w ne = get_set_other xs u v w (λ e. ne (ap suc e))

pub even_or_odd : (l : ℕ) → (l % 2 ≡ 0) ⊎ (l % 2 ≡ 1)
even_or_odd l = grind arith

module _ (raw : Raw) (start : List Tern) (rows : List (List Tern)) (t : ℕ) where
  -- the value of a definition's literal is that of its variable's even literal
  pub value_of_variable : (l : ℕ) (w : Tern) → IsDefinition l → Value raw start rows t l w
      → Value raw start rows t (2 * variable l) w
  value_of_variable l w d v = let e : 2 * variable l ≡ l = even l d in rw e v

  pub input_value : (row : List Tern) (i l : ℕ) (w : Tern) → IsSound raw → slice_get rows t ≡ Some row
      → slice_get raw.inputs i ≡ Some l → slice_get row i ≡ Some w → Value raw start rows t (2 * variable l) w
  input_value row i l w sound here at is =
      value_of_variable l w (input_definition raw sound i l at) (value.input t i l w row at here is)

  pub latch_value : (states : List Tern) (i : ℕ) (x : Latch) (w : Tern) → IsSound raw → AreStates raw start rows t states
      → slice_get raw.latches i ≡ Some x → slice_get states i ≡ Some w → Value raw start rows t (2 * variable x.lit) w
  latch_value states i x w sound s at is =
      let (u, here, v) = AllZip-slice_get
      (λ (x : Latch) (w : Tern). Value raw start rows t x.lit w) raw.latches states i x s.each at in
      let same : u ≡ w = cc in
      value_of_variable x.lit w (latch_definition raw sound i x at)
      (subst (λ (u : Tern). Value raw start rows t x.lit u) same v)

  negation_of_false : (w : Tern) → IsSound raw → Value raw start rows t 0 w → Value raw start rows t 1 (kleene_not w)
  negation_of_false w sound v =
      let e : w ≡ Zero = unique raw start rows sound v (value.constant_false t) in
      rw e (value.constant_true t)

  odd_has_value : (l : ℕ) (w : Tern) → IsSound raw → l % 2 ≡ 1 → Value raw start rows t (2 * variable l) w
      → Value raw start rows t l (kleene_not w)
  odd_has_value l w sound o v = elim (cases_eq l 1) [
    | inl one ↦
        let zero : 2 * variable l ≡ 0 = omega arith in
        let zero_is : Value raw start rows t 0 w = subst (λ (n : ℕ). Value raw start rows t n w) zero v in
        subst (λ (n : ℕ). Value raw start rows t n (kleene_not w)) (sym one) (negation_of_false w sound zero_is)
    | inr ne ↦
        let below : 2 * variable l ≡ l - 1 = omega arith in
        value.negated t l w (omega arith) o (subst (λ (n : ℕ). Value raw start rows t n w) below v)
  ]

  -- a literal's value by the cell of its variable
  pub literal_has_value : (cells : List Tern) (l : ℕ) → IsSound raw → Holds raw start rows t cells (variable l)
      → Value raw start rows t l (literal_value cells l)
  literal_has_value cells l sound h =
      let cell : get_or cells (variable l) X ≡ h.cell = get_or_from_slice_get cells (variable l) h.cell X h.cell_is in
      elim (even_or_odd l) [
        | inl e ↦ let same : 2 * variable l ≡ l = omega arith in rw (e, cell) (rw same at h.value_is)
        | inr o ↦ rw (o, cell) (odd_has_value l h.cell sound o h.value_is)
      ]

  pub gate_has_value : (cells : List Tern) (i : ℕ) (g : Gate) → IsSound raw → slice_get raw.gates i ≡ Some g
      → Holds raw start rows t cells (variable g.rhs0) → Holds raw start rows t cells (variable g.rhs1)
      → Value raw start rows t (2 * variable g.lhs) (gate_value cells g)
  gate_has_value cells i g sound at h0 h1 =
      value_of_variable g.lhs (gate_value cells g) (gate_definition raw sound i g at)
      (value.gate t i g (literal_value cells g.rhs0) (literal_value cells g.rhs1) at
      (literal_has_value cells g.rhs0 sound h0) (literal_has_value cells g.rhs1 sound h1))

  -- a value written to a cell
  pub holds_new : (cells : List Tern) (u : ℕ) (w : Tern) → u < length cells → Value raw start rows t (2 * u) w
      → Holds raw start rows t (slice_set cells u w) u
  holds_new cells u w lt v = record { cell = w; cell_is = get_set_same cells u w lt; value_is = v }

  pub renews_none : (cells : List Tern) → Renews raw start rows t cells cells
  renews_none cells = record { keeps = λ v h. h }

  pub renews_then : (old mid new : List Tern) → Renews raw start rows t old mid → Renews raw start rows t mid new
      → Renews raw start rows t old new
  renews_then old mid new a b = record { keeps = λ v h. b.keeps v (a.keeps v h) }

  -- what was a value stays one
  pub renews_write : (cells : List Tern) (u : ℕ) (w : Tern) → u < length cells → Value raw start rows t (2 * u) w
      → Renews raw start rows t cells (slice_set cells u w)
  renews_write cells u w lt val = record {
    keeps = λ v h. elim (cases_eq v u) [
      | inl e ↦ subst (λ (v : ℕ). Holds raw start rows t (slice_set cells u w) v) (sym e) (holds_new cells u w lt val)
      | inr ne ↦ record { cell = h.cell; cell_is = get_set_other cells u v w ne ∙ h.cell_is; value_is = h.value_is }
    ];
  }

  -- a write among others
  pub put_value : (old cells : List Tern) (u v : ℕ) (w : Tern) → u ≡ v → u < length cells
      → Value raw start rows t (2 * v) w
      → Renews raw start rows t old cells
      → Renews raw start rows t old (slice_set cells u w) × Renews raw start rows t cells (slice_set cells u w)
      × Holds raw start rows t (slice_set cells u w) v
  put_value old cells u v w e lt val r =
      let here : Value raw start rows t (2 * u) w = subst (λ (n : ℕ). Value raw start rows t (2 * n) w) (sym e) val in
      let step = renews_write cells u w lt here in (
        renews_then old cells (slice_set cells u w) r step,
        step,
        subst (Holds raw start rows t (slice_set cells u w)) e (holds_new cells u w lt here),
      )

  -- the cell of variable 0
  pub constant_holds : (cells : List Tern) → 0 < length cells → Holds raw start rows t (slice_set cells 0 Zero) 0
  constant_holds cells lt = holds_new cells 0 Zero lt (value.constant_false t)

  pub sources_hold : (cells : List Tern) → Holds raw start rows t cells 0 → HoldsInputs raw start rows t cells
      → HoldsLatches raw start rows t cells → HoldsSources raw start rows t cells
  sources_hold cells is inputs latches v grounded.IsSource.constant = is
  sources_hold cells is inputs latches v (grounded.IsSource.input i l at) = inputs i l at
  sources_hold cells is inputs latches v (grounded.IsSource.latch i x at) = latches i x at

  -- the cells before the gate that is evaluated next
  abbrev pub HoldsFirst : List Gate → ℕ → List Tern → Type 0
  HoldsFirst gates q cells = (r : ℕ) (g : Gate) → r < q → slice_get gates r ≡ Some g
      → Holds raw start rows t cells (variable g.lhs)

  ready_holds : (gates : List Gate) (q v : ℕ) (cells : List Tern) → HoldsSources raw start rows t cells
      → HoldsFirst gates q cells
      → IsSourceOrEarlier raw gates q v → Holds raw start rows t cells v
  ready_holds gates q v cells sources first (inl s) = sources v s
  ready_holds gates q v cells sources first (inr (r, g, lt, at, is)) =
      subst (Holds raw start rows t cells) is (first r g lt at)

  -- a gate is evaluated after those that it reads
  pub gate_value_is : (gates : List Gate) (q : ℕ) (g : Gate) (cells : List Tern) → IsSound raw → IsGateOrder raw gates
      → slice_get gates q ≡ Some g → HoldsSources raw start rows t cells → HoldsFirst gates q cells
      → Value raw start rows t (2 * variable g.lhs) (gate_value cells g)
  gate_value_is gates q g cells sound order at sources first =
      let (i, stands) = order.known q g at in
      gate_has_value cells i g sound stands
      (ready_holds gates q (variable g.rhs0) cells sources first (order.ready0 q g at))
      (ready_holds gates q (variable g.rhs1) cells sources first (order.ready1 q g at))

  pub all_hold : (gates : List Gate) (cells : List Tern) → IsGateOrder raw gates → HoldsSources raw start rows t cells
      → HoldsFirst gates (length gates) cells → HoldsAll raw start rows t cells
  all_hold gates cells order sources first v d = elim (defined_cases raw v d) [
    | inl s ↦ sources v s
    | inr k ↦
        let (q, g, at, is) = order.complete v k in
        subst (Holds raw start rows t cells) is (first q g (slice_get_within gates q g at) at)
  ]
