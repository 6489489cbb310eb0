-- The canonical order is one in which gates can be evaluated, and so is that of the file where each gate reads marked
-- variables alone.
use Rattle.std.proofs.Common.{◌≡◌, ◌↔◌, ◌⊎◌, inl, inr, ℕ, zero, suc, ◌+◌, ◌<◌, ◌≤◌, max, List, [], ◌∷◌, ◌++◌, get_or}
use Rattle.std.proofs.Common.{Bool, true, false, replicate, Some, slice_get, slice_set, length, take, map, Contains}
use Rattle.std.proofs.Common.{refl, sym, ap, ◌∙◌, subst, arith, option_map}
use Rattle.std.proofs.lemmas.Bool.{cases_eq, cases_order}
use Rattle.std.proofs.lemmas.Option.{slice_get-get_or, slice_get-map, slice_get_within, get_or_from_slice_get}
use Rattle.std.proofs.lemmas.List.{length-replicate, map-append, take_more}
use Rattle.std.proofs.lemmas.List.Elements.{All-contains, Contains-append_left, Contains-append_right}
use Rattle.std.proofs.lemmas.List.Elements.{Contains-append_cases}
use Rattle.aig_parts.specs.declared.gate.Gate.{Gate}
use Rattle.aig_parts.specs.declared.latch.Latch.{Latch}
use Rattle.aig_parts.specs.declared.raw.Raw.{Raw}
use Rattle.aig_base.specs.Circuit.{IsCircuit}
use Rattle.aig_base.specs.Grounded.{IsSource, Level}
use Rattle.aig_base.specs.Grounded as by
use Rattle.aig_parts.specs.Literal.{variable}
use Rattle.aig_base.specs.Order.{AreSorted, ComesBefore, IsCanonicalOrder}
use Rattle.aig_base.specs.Sections.{IsDefined, IsGate}
use Rattle.aig_base.specs.state.Marks.{IsMarked}
use Rattle.aig_base.proofs.circuits.Defined.{defined_cases, Grounded-of_defined}
use Rattle.aig_base.proofs.levels.OneLevel.{level_of, same_level}
use Rattle.aig_base.proofs.lists.Positions.{Contains-from_slice_get, position_of, unmap}
use Rattle.aig_values.specs.GateOrder.{IsSourceOrEarlier, IsGateOrder, AreGatesOf, AreMarked, AddsMarks}
use Rattle.aig_values.proofs.Evaluation.{get_set_same, get_set_other}
use Rattle.aig_base.proofs.circuits.Circuits.{rhs0_defined, rhs1_defined}

-- sorted gates are those of their variables
pub gates_sorted : (raw : Raw) (gates : List Gate) → AreSorted raw gates
    → AreGatesOf raw (map (λ g. variable g.lhs) gates) gates
gates_sorted raw gates sorted = record {
  known = λ k d lt. position_of raw.gates (get_or gates k d) (sorted.known k d lt);
  variables_are = refl;
}

-- in a list in order, what comes before an element
before_in_order : (raw : Raw) (order : List ℕ) (i j u v : ℕ) → IsCanonicalOrder raw order → i < j
    → slice_get order i ≡ Some u → slice_get order j ≡ Some v → ComesBefore raw u v
before_in_order raw order i j u v h lt at at' =
    let within = slice_get_within order j v at' in
    subst (λ (x : ℕ). ComesBefore raw x v) (get_or_from_slice_get order i u 0 at)
    (subst (λ (y : ℕ). ComesBefore raw (get_or order i 0) y) (get_or_from_slice_get order j v 0 at')
    (h.ordered i j 0 lt within))

module _ (raw : Raw) (circuit : IsCircuit raw) (order : List ℕ) (gates : List Gate)
    (canonical : IsCanonicalOrder raw order) (are : AreGatesOf raw order gates) where
  known : (q : ℕ) (g : Gate) → slice_get gates q ≡ Some g → (r : ℕ) × (slice_get raw.gates r ≡ Some g)
  known q g at = All-contains (λ g. (r : ℕ) × (slice_get raw.gates r ≡ Some g)) gates g are.known
      (Contains-from_slice_get gates q g at)

  in_order : (q : ℕ) (g : Gate) → slice_get gates q ≡ Some g → slice_get order q ≡ Some (variable g.lhs)
  in_order q g at =
      subst (λ (vs : List ℕ). slice_get vs q ≡ Some (variable g.lhs)) are.variables_are
      (slice_get-map (λ (g : Gate). variable g.lhs) gates q ∙ ap (option_map (λ (g : Gate). variable g.lhs)) at)

  complete : (v : ℕ) → IsGate raw v → (q : ℕ) × (g : Gate) × (slice_get gates q ≡ Some g) × (variable g.lhs ≡ v)
  complete v h =
      let (g, q, at, is) = unmap (λ (g : Gate). variable g.lhs) gates v
      (subst (λ (vs : List ℕ). Contains vs v) (sym are.variables_are) ((canonical.gates v).1 h)) in
      (q, g, at, is)

  -- a right side has a lower level than the gate
  lower : (r : ℕ) (g : Gate) (u m n : ℕ) → slice_get raw.gates r ≡ Some g → (u ≡ variable g.rhs0)
      ⊎ (u ≡ variable g.rhs1)
      → Level raw u m → Level raw (variable g.lhs) n → m < n
  lower r g u m n at side lu lv =
      let (a, la) = level_of
      (Grounded-of_defined raw circuit.acyclic (variable g.rhs0) (rhs0_defined raw circuit.sound r g at)) in
      let (b, lb) = level_of
      (Grounded-of_defined raw circuit.acyclic (variable g.rhs1) (rhs1_defined raw circuit.sound r g at)) in
      let top : n ≡ max a b + 1 = same_level circuit.sound lv (by.Level.gate r g a b at la lb) in
      elim side [
        | inl e ↦ let same : m
            ≡ a = same_level circuit.sound lu (subst (λ (x : ℕ). Level raw x a) (sym e) la) in omega arith
        | inr e ↦ let same : m
            ≡ b = same_level circuit.sound lu (subst (λ (x : ℕ). Level raw x b) (sym e) lb) in omega arith
      ]

  ready : (q : ℕ) (g : Gate) (u : ℕ) → slice_get gates q ≡ Some g → (u ≡ variable g.rhs0) ⊎ (u ≡ variable g.rhs1)
      → IsDefined raw u → IsSourceOrEarlier raw gates q u
  ready q g u at side d = elim (defined_cases raw u d) [
    | inl s ↦ inl s
    | inr k ↦
        let (i, h, there, is) = complete u k in
        let (r, stands) = known q g at in
        elim (cases_order i q) [
          | inl e ↦
              let same : h ≡ g = (let p : Some h ≡ Some g = sym there ∙ ap (slice_get gates) e ∙ at in cc) in
              let of_side = level_of (Grounded-of_defined raw circuit.acyclic u d) in
              let below = lower r g u of_side.0 of_side.0 stands side of_side.1
              (subst (λ (x : ℕ). Level raw x of_side.0) (sym is ∙ ap (λ (x : Gate). variable x.lhs) same) of_side.1) in
              absurd (omega (arith, below))
          | inr o ↦ elim o [
            | inl lt ↦ inr (i, h, lt, there, is)
            | inr gt ↦
                let (m, n, lv, lu, before) =
                before_in_order raw order q i (variable g.lhs) u canonical gt (in_order q g at)
                (in_order i h there ∙ ap Some is) in
                let below = lower r g u n m stands side lu lv in
                absurd (omega (arith, below, before))
          ]
        ]
  ]

  pub gate_order : IsGateOrder raw gates
  gate_order = record {
    known = known;
    complete = complete;
    ready0 = λ q g at. let (r, stands) = known q g at in
        ready q g (variable g.rhs0) at (inl refl) (rhs0_defined raw circuit.sound r g stands);
    ready1 = λ q g at. let (r, stands) = known q g at in
        ready q g (variable g.rhs1) at (inr refl) (rhs1_defined raw circuit.sound r g stands);
  }

-- ---- marks

false_is_not_true : (n v : ℕ) → IsMarked (replicate n false) v → ⊥
false_is_not_true zero v is = cc
false_is_not_true (suc n) zero is = cc
false_is_not_true (suc n) (suc v) is = false_is_not_true n v is

-- a mark, as it is read
pub is_marked : (marks : List Bool) (v : ℕ) → v < length marks → (get_or marks v false ≡ true) ↔ IsMarked marks v
is_marked marks v lt =
    (λ e. slice_get-get_or marks v false lt ∙ ap Some e, λ is. get_or_from_slice_get marks v true false is)

-- one more mark
set_marked : (marks : List Bool) (u v : ℕ) → u < length marks
    → IsMarked (slice_set marks u true) v ↔ (IsMarked marks v ⊎ (v ≡ u))
set_marked marks u v lt = elim (cases_eq v u) [
  | inl e ↦ (
    λ is. inr e,
    λ h. subst (IsMarked (slice_set marks u true)) (sym e) (get_set_same marks u true lt),
  )
  | inr ne ↦
      let other = get_set_other marks u v true ne in
      (λ is. inl (sym other ∙ is), λ h. elim h [ inl is ↦ other ∙ is | inr e ↦ absurd (ne e) ])
]

-- the first variable alone is marked
pub first_marked : (n : ℕ) → 0 < n → AreMarked (λ v. v ≡ 0) (slice_set (replicate n false) 0 true)
first_marked n some v =
    let none = replicate n false in
    let here = set_marked none 0 v (rw length-replicate some) in (
      λ is. elim (here.0 is) [ inl was ↦ absurd (false_is_not_true n v was) | inr e ↦ e ],
      λ e. here.1 (inr e),
    )

only : (u v : ℕ) → Contains (u ∷ []) v → v ≡ u
only u v (zero, lt, is) = sym is
only u v (suc k, lt, is) = absurd (omega arith)

adds_one : (added : List ℕ) (u : ℕ) (old mid : List Bool) → u < length mid → AddsMarks added old mid
    → AddsMarks (added ++ u ∷ []) old (slice_set mid u true)
adds_one added u old mid lt before v =
    let here = set_marked mid u v lt in (
      λ is. elim (here.0 is) [
        | inl was ↦ elim ((before v).0 was) [
          | inl first ↦ inl first
          | inr one ↦ inr (Contains-append_left added (u ∷ []) v one)
        ]
        | inr e ↦ inr (Contains-append_right added (u ∷ []) v (0, omega arith, sym e))
      ],
      λ h. elim h [
        | inl first ↦ here.1 (inl ((before v).1 (inl first)))
        | inr one ↦ elim (Contains-append_cases added (u ∷ []) v one) [
          | inl earlier ↦ here.1 (inl ((before v).1 (inr earlier)))
          | inr last ↦ here.1 (inr (only u v last))
        ]
      ],
    )

-- no marks are added by none
pub adds_none : (marks : List Bool) → AddsMarks [] marks marks
adds_none marks v = (λ is. inl is, λ h. elim h [ inl is ↦ is | inr (k, lt, is) ↦ absurd (omega arith) ])

-- the variable of one more item
pub adds_more : {X : Type 0} → (f : X → ℕ) (xs : List X) (i : ℕ) (x : X) (u : ℕ) (old mid : List Bool)
    → slice_get xs i ≡ Some x → u ≡ f x → u < length mid → AddsMarks (map f (take i xs)) old mid
    → AddsMarks (map f (take (i + 1) xs)) old (slice_set mid u true)
adds_more {X} f xs i x u old mid at is lt before =
    let next : take (i + 1) xs ≡ take i xs ++ x ∷ [] =
    take_more xs i x (slice_get_within xs i x at)
    ∙ ap (λ (y : X). take i xs ++ y ∷ []) (get_or_from_slice_get xs i x x at) in
    let step : map f (take (i + 1) xs) ≡ map f (take i xs) ++ u ∷ [] =
    ap (map f) next ∙ map-append f (take i xs) (x ∷ []) ∙ ap (λ (n : ℕ). map f (take i xs) ++ n ∷ []) (sym is) in
    subst (λ (us : List ℕ). AddsMarks us old (slice_set mid u true)) (sym step)
    (adds_one (map f (take i xs)) u old mid lt before)

mapped : {X : Type 0} → (f : X → ℕ) (xs : List X) (p : ℕ) (x : X) → slice_get xs p ≡ Some x → Contains (map f xs) (f x)
mapped f xs p x at =
    Contains-from_slice_get (map f xs) p (f x) (slice_get-map f xs p ∙ ap (option_map f) at)

-- after variable 0, the inputs and the latches the marked variables are the sources
module _ (raw : Raw) (first inputs all : List Bool) (constant : AreMarked (λ v. v ≡ 0) first)
    (more : AddsMarks (map variable raw.inputs) first inputs)
    (most : AddsMarks (map (λ x. variable x.lit) raw.latches) inputs all) where
  marked_source : (v : ℕ) → IsMarked all v → IsSource raw v
  marked_source v is = elim ((most v).0 is) [
    | inl was ↦ elim ((more v).0 was) [
      | inl least ↦ subst (IsSource raw) (sym ((constant v).0 least)) by.IsSource.constant
      | inr one ↦
          let (l, p, at, e) = unmap variable raw.inputs v one in
          subst (IsSource raw) e (by.IsSource.input p l at)
    ]
    | inr one ↦
        let (x, p, at, e) = unmap (λ (x : Latch). variable x.lit) raw.latches v one in
        subst (IsSource raw) e (by.IsSource.latch p x at)
  ]

  source_marked : (v : ℕ) → IsSource raw v → IsMarked all v
  source_marked v by.IsSource.constant = (most 0).1 (inl ((more 0).1 (inl ((constant 0).1 refl))))
  source_marked v (by.IsSource.input p l at) =
      (most (variable l)).1 (inl ((more (variable l)).1 (inr (mapped variable raw.inputs p l at))))
  source_marked v (by.IsSource.latch p x at) =
      (most (variable x.lit)).1 (inr (mapped (λ (x : Latch). variable x.lit) raw.latches p x at))

  pub sources_marked : AreMarked (IsSource raw) all
  sources_marked v = (marked_source v, source_marked v)

-- ---- gates as they stand

-- a gate reads variables that are ready
pub record ReadsReady (raw : Raw) (gates : List Gate) (q : ℕ) (g : Gate) : Type 0 where
  pub side0 : IsSourceOrEarlier raw gates q (variable g.rhs0)
  pub side1 : IsSourceOrEarlier raw gates q (variable g.rhs1)

-- the first n gates read variables that are ready, and the marked variables are those that are ready for the next
pub record AreReady (raw : Raw) (n : ℕ) (marks : List Bool) : Type 0 where
  pub marked : AreMarked (IsSourceOrEarlier raw raw.gates n) marks
  pub each : (q : ℕ) (g : Gate) → q < n → slice_get raw.gates q ≡ Some g → ReadsReady raw raw.gates q g

no_gate_ready : (raw : Raw) (gates : List Gate) (v : ℕ) → IsSourceOrEarlier raw gates 0 v → IsSource raw v
no_gate_ready raw gates v (inl s) = s
no_gate_ready raw gates v (inr (r, g, lt, at, is)) = absurd (omega (arith, lt))

pub none_ready : (raw : Raw) (marks : List Bool) → AreMarked (IsSource raw) marks → AreReady raw 0 marks
none_ready raw marks sources = record {
  marked = λ v. (λ is. inl ((sources v).0 is), λ h. (sources v).1 (no_gate_ready raw raw.gates v h));
  each = λ q g lt. absurd (omega (arith, lt));
}

ready_later : (raw : Raw) (gates : List Gate) (n v : ℕ) → IsSourceOrEarlier raw gates n v → IsSourceOrEarlier raw gates (n + 1) v
ready_later raw gates n v (inl s) = inl s
ready_later raw gates n v (inr (r, g, lt, at, is)) = inr (r, g, omega (arith, lt), at, is)

-- what is ready after one more gate is its variable, or was ready before
ready_before : (raw : Raw) (gates : List Gate) (n v : ℕ) (g : Gate) → slice_get gates n ≡ Some g
    → IsSourceOrEarlier raw gates (n + 1) v → IsSourceOrEarlier raw gates n v ⊎ (v ≡ variable g.lhs)
ready_before raw gates n v g here (inl s) = inl (inl s)
ready_before raw gates n v g here (inr (r, h, lt, at, is)) = elim (cases_eq r n) [
  | inl e ↦
      let p : Some h ≡ Some g = sym at ∙ ap (slice_get gates) e ∙ here in
      let same : h ≡ g = cc in
      inr (sym is ∙ ap (λ (x : Gate). variable x.lhs) same)
  | inr ne ↦ inl (inr (r, h, omega arith, at, is))
]

pub ready_more : (raw : Raw) (n : ℕ) (g : Gate) (marks : List Bool) → AreReady raw n marks
    → slice_get raw.gates n ≡ Some g → variable g.lhs < length marks
    → IsMarked marks (variable g.rhs0) → IsMarked marks (variable g.rhs1)
    → AreReady raw (n + 1) (slice_set marks (variable g.lhs) true)
ready_more raw n g marks before at fits m0 m1 = record {
  marked = λ v. let here = set_marked marks (variable g.lhs) v fits in (
    λ is. elim (here.0 is) [
      | inl was ↦ ready_later raw raw.gates n v ((before.marked v).0 was)
      | inr e ↦ inr (n, g, omega arith, at, sym e)
    ],
    λ h. elim (ready_before raw raw.gates n v g at h) [
      | inl earlier ↦ here.1 (inl ((before.marked v).1 earlier))
      | inr e ↦ here.1 (inr e)
    ],
  );
  each = λ q h lt is. elim (cases_eq q n) [
    | inl e ↦
        let p : Some g ≡ Some h = sym at ∙ ap (slice_get raw.gates) (sym e) ∙ is in
        let same : g ≡ h = cc in
        subst (λ (q : ℕ). ReadsReady raw raw.gates q h) (sym e) (subst (ReadsReady raw raw.gates n) same
        (record { side0 = (before.marked (variable g.rhs0)).0 m0; side1 = (before.marked (variable g.rhs1)).0 m1 }))
    | inr ne ↦ before.each q h (omega arith) is
  ];
}

-- gates that read ready variables alone stand in an order
pub all_ready : (raw : Raw) (n : ℕ) (marks : List Bool) → length raw.gates ≤ n → AreReady raw n marks
    → IsGateOrder raw raw.gates
all_ready raw n marks le h = record {
  known = λ q g at. (q, at);
  complete = λ v is. let (g, q, at, e) = unmap (λ (g : Gate). variable g.lhs) raw.gates v is in (q, g, at, e);
  ready0 = λ q g at. let w = slice_get_within raw.gates q g at in (h.each q g (omega arith) at).side0;
  ready1 = λ q g at. let w = slice_get_within raw.gates q g at in (h.each q g (omega arith) at).side1;
}

-- in an order, the next gate reads marked variables alone
pub reads_are_marked : (raw : Raw) (n : ℕ) (g : Gate) (marks : List Bool) → AreReady raw n marks
    → slice_get raw.gates n ≡ Some g → IsGateOrder raw raw.gates
    → IsMarked marks (variable g.rhs0) × IsMarked marks (variable g.rhs1)
reads_are_marked raw n g marks before at order = (
  (before.marked (variable g.rhs0)).1 (order.ready0 n g at),
  (before.marked (variable g.rhs1)).1 (order.ready1 n g at),
)
